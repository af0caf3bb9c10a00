-- Entries of a judge's words: what a call leaves, a campaign of such calls, and what the words of a host's run count as. Assumes
-- nothing.
use mathlib.Core.Path.{◌≡◌, refl, sym, ap, ◌∙◌, subst}
use mathlib.Core.Bool.{Bool, true, false, cond}
use mathlib.Core.List.{List, [], ◌∷◌}
use Rattle.std.specs.Prelude.{None, Some}
use Prim.Native.Nat.{ℕ}
use lib.ListN.{length}
use lib.Dec.{eqb}
use Rattle.rules.specs.declared.Opening.{Opening}
use Rattle.judge.specs.declared.state.Judge.{Judge}
use Rattle.judge.specs.Openings.{Fits}
use Rattle.demands.specs.Calls.{taken_of}
use Rattle.tally.specs.declared.Entered.{Entered}
use Rattle.tally.specs.Entries.{refusal_number, entry_refusal, left_by, EntersBy}
use Rattle.tally.specs.Campaigns as Tally-campaigns
use Rattle.tally.specs.Campaigns.{zero_tally, Entry, Campaign, entered, Tallied}
use Rattle.tally.proofs.Campaigns.{refusal_of, entry_fits, campaign}
use Rattle.tally.proofs.Finished.{entry_after, means_after}
use Rattle.state_words.specs.StateWords.{state_size, judge_in, is_state, state_in}
use Rattle.petalchurn.specs.Calls.{OpensWords}
use Rattle.petalchurn.specs.Tallies.{words_refusal, words_left, TalliesWords, HostEntry, HostCampaign, none as done, more as next, judges_entered, LibraryEntry}
use Rattle.petalchurn.specs.Runs.{Buffers, state_at, HostCall, calls_of, HostCalls}
use Rattle.petalchurn.proofs.Runs.{library_ran, library_demands}

-- ---- a call

module _ (state bytes : List ℕ) {b : Bool} (t : is_state state ≡ b) where
  refusal_by_lem : words_refusal (state_in state) bytes ≡ words_refusal (cond b (Some (judge_in state)) None) bytes
  refusal_by_lem = ap (λ (x : Bool). words_refusal (cond x (Some (judge_in state)) None) bytes) t

  left_by_lem : words_left (state_in state) bytes ≡ words_left (cond b (Some (judge_in state)) None) bytes
  left_by_lem = ap (λ (x : Bool). words_left (cond x (Some (judge_in state)) None) bytes) t

module _ (state bytes : List ℕ) where
  pub tally_unfit : is_state state ≡ false → TalliesWords state bytes 5 bytes
  tally_unfit t = record { refusal = sym (refusal_by_lem state bytes t); tally = sym (left_by_lem state bytes t) }

  pub tally_done : {j : Judge} {a : Entered} {r : ℕ} {bytes' : List ℕ} → is_state state ≡ true → j ≡ judge_in state → EntersBy bytes j a bytes'
      → r ≡ refusal_number a.refusal → TalliesWords state bytes r bytes'
  tally_done t g q e = record {
    refusal = e ∙ q.refusal ∙ ap (entry_refusal bytes) g ∙ sym (refusal_by_lem state bytes t);
    tally = q.tally ∙ ap (left_by bytes) g ∙ sym (left_by_lem state bytes t);
  }

-- ---- a campaign

-- the entries of judges that a host's calls are: those of words that are none leave the tally
record Entries (bytes : List ℕ) (es : List HostEntry) (bytes' : List ℕ) : Type 0 where
  own : List Entry
  run : Campaign bytes own bytes'
  same : entered own ≡ judges_entered es

module _ (e : HostEntry) (es : List HostEntry) (bytes mid bytes' : List ℕ) (q : TalliesWords e.state bytes e.returned mid)
    (rest : Entries mid es bytes') where
  j : Judge
  j = judge_in e.state

  entries_by : (b : Bool) → is_state e.state ≡ b → Entries bytes (e ∷ es) bytes'
  unfolding entered judges_entered j
  entries_by true t =
      let x = refusal_of bytes j in
      let entry : Entry = record { judge = j; answer = record { refusal = x.0; judge = j } } in
      let by : EntersBy bytes j entry.answer mid = record { refusal = x.1; judge = refl; tally = q.tally ∙ left_by_lem e.state bytes t } in
      let n : refusal_number x.0 ≡ e.returned = x.1 ∙ sym (q.refusal ∙ refusal_by_lem e.state bytes t) in
      record {
        own = entry ∷ rest.own;
        run = Tally-campaigns.more {e = entry} by rest.run;
        same = λ i. cond (eqb (n i) 0) (j ∷ rest.same i) (rest.same i);
      }
  entries_by false t =
      let kept : mid ≡ bytes = q.tally ∙ left_by_lem e.state bytes t in
      let five : e.returned ≡ 5 = q.refusal ∙ refusal_by_lem e.state bytes t in
      record {
        own = rest.own;
        run = subst (λ (s : List ℕ). Campaign s rest.own bytes') kept rest.run;
        same = rest.same ∙ sym (ap (λ (n : ℕ). cond (eqb n 0) (j ∷ judges_entered es) (judges_entered es)) five);
      }

entries : {bytes bytes' : List ℕ} {es : List HostEntry} → HostCampaign bytes es bytes' → Entries bytes es bytes'
unfolding entered judges_entered
entries done = record { own = []; run = Tally-campaigns.none; same = refl }
entries {bytes} {bytes'} (next {mid = mid} {e = e} {es = es} q c) =
    entries_by e es bytes mid bytes' q (entries c) (is_state e.state) refl

-- THE CAMPAIGN, of the library: from a tally of zeros, after any list of calls with any words, refused ones among them, the tally is
-- that of the judges entered
pub library_campaign : (es : List HostEntry) (bytes : List ℕ) → HostCampaign zero_tally es bytes → Tallied (judges_entered es) bytes
library_campaign es bytes c =
    let w = entries c in
    subst (λ (js : List Judge). Tallied js bytes) w.same (campaign w.own bytes w.run)

-- ---- the words of a host's run

-- WHAT A FINISHED JUDGE COUNTS AS, of the library: with the hypotheses of its demands
pub library_entry : (o : Opening) (c : ℕ) (log work state : List ℕ) (r : ℕ) (work' state' : List ℕ) → length state ≡ state_size
    → Fits (length log) (length work) c → OpensWords o log work state r work' state'
    → (cs : List HostCall) (z : Buffers) → HostCalls (record { state = state'; log = log; work = work' }) cs z
    → LibraryEntry o (taken_of c (calls_of cs) []) z.state
library_entry o c log work state r work' state' n f q cs z p =
    let is = (library_demands o c log work state r work' state' n f q cs z p).state in
    let w = library_ran o c log work state r work' state' n f q cs z p in
    let j = judge_in z.state in
    let entry = entry_after o (taken_of c (calls_of cs) []) (state_at z) w.after w.opening in
    record {
      never_unfit = λ bytes s bytes' l e five. entry_fits bytes j l entry (sym (e.refusal ∙ ap (λ x. words_refusal x bytes) is) ∙ five);
      means = means_after o (taken_of c (calls_of cs) []) (state_at z) w.after w.opening;
    }
