-- What a preview and a commit leave, from the core's and the push's own promises. Assumes nothing.
use mathlib.Core.Path.{◌≡◌, refl, sym, ap, ◌∙◌, subst}
use mathlib.Core.Bool.{Bool, true, false, cond, not, ◌&&◌, ◌||◌}
use mathlib.Core.List.{List, ◌++◌}
use Rattle.std.specs.Prelude.{None, Some}
use Prim.Native.Nat.{ℕ, ◌-◌, ◌^◌, ◌≤◌, ◌<◌}
use native.Mathlib.Omega.{arith}
use native.Mathlib.Decide.{dec_lt, ℕ_discrete}
use lib.ListN.{length, get_or, take, drop, replicate, length-append, length-drop}
use lib.Seq.{take_at, take_all, drop_at, length-take-le}
use lib.Dec.{eqb, ltb, leb}
use borrow.Author.Tests.{eq-eqb, ne_eqb, eqb-true, le-leb, lt-leb, leb-true, le-ltb, lt-ltb, not-true, not-false}
use Rattle.record.specs.Numbers.{part}
use Rattle.rules.specs.declared.Report.{Report}
use Rattle.rules.specs.Reports.{passed}
use Rattle.rules.specs.Checks.{check_count}
use Rattle.record.proofs.Booleans.{never, and_left, and_right}
use Rattle.rows.specs.Rows.{rows_size, rows_of, reports_from, reports_in}
use Rattle.rows.proofs.ReadBack.{rows_read}
use Rattle.intake.specs.Words.{Indexed}
use Rattle.intake.specs.Takes.{PreviewsIn}
use Rattle.decision.proofs.Decisions.{room_of}
use Rattle.judge.specs.declared.state.Judge.{Judge}
use Rattle.judge.specs.declared.ticket.Ticket.{Ticket}
use Rattle.judge.specs.Tickets.{ticket_of, no_ticket}
use Rattle.judge.specs.States.{suits, push_refusal, commit_refusal, takes}
use Rattle.judge.specs.Lookups.{lends}
use Rattle.judge.specs.Pushes.{Takes, state_of}
use Rattle.judge.specs.Traces.{judge_by}
use Rattle.judge.specs.Previews.{refused_reports, ticket_for, Previews}
use Rattle.judge.proofs.Pushes.{RowsOf, rows_own}
use Rattle.judge.proofs.Previews.{shown_would, shown_refused}
use Rattle.judge.proofs.Commits.{unfit_refusal, stale_refusal, current_refusal}
use Rattle.state_words.specs.StateWords.{header_size, state_size, judge_in, is_state, state_in}
use Rattle.state_words.proofs.Headers.{opening_in, judge_by_lem, rows_length}
use Rattle.state_words.proofs.States.{fit_of, some_state, none_state, state_words_lem}
use Rattle.ticket_bytes.specs.TicketBytes.{count_size, ticket_size, ticket_bytes, has_count, count_in, record_in, is_current}
use Rattle.ticket_bytes.proofs.TicketBytes.{ticket_has_count, ticket_count, ticket_record}
use Rattle.petalchurn.specs.Calls.{PushesWords}
use Rattle.petalchurn.specs.Previews.{bytes_of_ticket, ticket_in, RowsIn, ShowsWords, roomy, PreviewsWords, CommittedWords, CommitsWords}

-- ---- rows at the front of a list

-- the front of a list with other words in its place
abbrev pub with_front : List ℕ → List ℕ → List ℕ
with_front list words = take 0 list ++ (words ++ drop rows_size (drop 0 list))

front_rest : {list : List ℕ} (front rest words : List ℕ) → list ≡ front ++ rest → length front ≡ rows_size → with_front list words ≡ words ++ rest
front_rest front rest words e n = ap (λ (t : List ℕ). words ++ t) (ap (drop rows_size) e ∙ drop_at front rest rows_size n)

-- passes as words are zeros
pub passes_zero : rows_of (replicate check_count passed) ≡ replicate rows_size 0
unfolding rows_of
passes_zero = refl

-- the front cleared
pub front_passes : (list : List ℕ) {words : List ℕ} → rows_size ≤ length list → words ≡ replicate (length (take rows_size (drop 0 list))) 0
    → RowsIn list (replicate check_count passed) (with_front list words)
front_passes list l e =
    let n : length (take rows_size list) ≡ rows_size = length-take-le rows_size list l in
    record { many = refl; words = ap (λ (t : List ℕ). t ++ drop rows_size list) (e ∙ ap (λ (k : ℕ). replicate k 0) n ∙ sym passes_zero) }

reports_eight : (rows : List ℕ) → length (reports_in rows 0) ≡ check_count
unfolding reports_from
reports_eight rows = refl

-- ---- what is shown

module _ (state log work rec reports : List ℕ) (size : length state ≡ state_size)
    {copied : List ℕ} (c : copied ≡ drop header_size state ++ drop rows_size reports) {r : ℕ} {rows' : List ℕ}
    (p : PreviewsIn (opening_in state) (get_or state 0 0) (get_or state 1 0) (get_or state 2 0) log work (take rows_size (drop 0 copied)) rec r rows') where
  -- the judge of the state's numbers and rows
  abbrev own : Judge
  own = judge_by (opening_in state) (get_or state 0 0) (get_or state 1 0) (get_or state 2 0) (drop header_size state)

  lent : take rows_size (drop 0 copied) ≡ drop header_size state
  lent = ap (take rows_size) c ∙ take_at (drop header_size state) (drop rows_size reports) rows_size (rows_length state size)

  of_own : PreviewsIn (opening_in state) (get_or state 0 0) (get_or state 1 0) (get_or state 2 0) log work (drop header_size state) rec r rows'
  of_own = subst (λ (l : List ℕ). PreviewsIn (opening_in state) (get_or state 0 0) (get_or state 1 0) (get_or state 2 0) log work l rec r rows') lent p

  are : RowsOf own (drop header_size state)
  are = rows_own (opening_in state) (get_or state 0 0) (get_or state 1 0) (get_or state 2 0) (drop header_size state) (rows_length state size)

  rows_left : length rows' ≡ rows_size
  rows_left = of_own.size ∙ rows_length state size

  -- what stands in the list then: the core's rows, and the rest left
  shown_left : with_front copied rows' ≡ rows' ++ drop rows_size reports
  shown_left = front_rest (drop header_size state) (drop rows_size reports) rows' c (rows_length state size)

  -- what is shown of the state's own judge is shown of every judge that it stands for: there is one
  of_state : {n : ℕ} {rs : List Report} → Previews (state_of own log work) rec n rs (ticket_for (state_of own log work) rec)
      → (j : Judge) → state_in state ≡ Some j → Previews (state_of j log work) rec n rs (ticket_for (state_of j log work) rec)
  of_state {n} {rs} q j e =
      subst (λ (i : Judge). Previews (state_of i log work) rec n rs (ticket_for (state_of i log work) rec))
      (judge_by_lem state ∙ fit_of state (some_state state e) e) q

  not_unfit : (r ≡ 5 → ⊥) → (r ≡ 0 → ⊥) → reports_in rows' 0 ≡ refused_reports own.reports r
  not_unfit f z =
      ap (λ (l : List ℕ). reports_in l 0) (of_own.refused z)
      ∙ sym (ap (λ (b : Bool). cond b (replicate check_count passed) own.reports) (ne_eqb r 5 f))

  shown_own : (r ≡ 5 → ⊥) → Previews (state_of own log work) rec r (reports_in rows' 0) (ticket_for (state_of own log work) rec)
  shown_own f = elim (ℕ_discrete r 0) [
    | yes z ↦ shown_would own log work (drop header_size state) rec are of_own refl refl z refl
    | no z ↦ shown_refused own log work (drop header_size state) rec are of_own refl refl z (not_unfit f z)
  ]

  -- the rows that the core left, but for 5
  pub show_done : (r ≡ 5 → ⊥) → ShowsWords state log work rec reports r (with_front copied rows')
  show_done f = record {
    shown = reports_in rows' 0;
    rows = record {
      many = reports_eight rows';
      words = shown_left ∙ ap (λ (l : List ℕ). l ++ drop rows_size reports) (rows_read rows' rows_left);
    };
    shows = of_state (shown_own f);
  }

  -- passes under 5
  pub show_unfit : {zeros : List ℕ} → r ≡ 5 → zeros ≡ replicate (length (take rows_size (drop 0 (with_front copied rows')))) 0
      → ShowsWords state log work rec reports 5 (with_front (with_front copied rows') zeros)
  show_unfit {zeros} f e = record {
    shown = replicate check_count passed;
    rows = record { many = refl; words = cleared ∙ ap (λ (t : List ℕ). rows_of (replicate check_count passed) ++ t) rest_left };
    shows = of_state
        (shown_refused own log work (drop header_size state) rec are of_own (sym f) refl (λ z. omega arith)
        (sym (ap (λ (b : Bool). cond b (replicate check_count passed) own.reports) (eq-eqb r 5 f))));
  }
    where
      rest_left : drop rows_size (with_front copied rows') ≡ drop rows_size reports
      rest_left = ap (drop rows_size) shown_left ∙ drop_at rows' (drop rows_size reports) rows_size rows_left

      long : rows_size ≤ length (with_front copied rows')
      long = let n = ap length shown_left ∙ length-append rows' (drop rows_size reports) in let m = rows_left in omega arith

      cleared : with_front (with_front copied rows') zeros ≡ rows_of (replicate check_count passed) ++ drop rows_size (with_front copied rows')
      cleared = (front_passes (with_front copied rows') long e).words

-- ---- a preview

-- the test of room, as the code has it
room_by : (a b m n : ℕ) → (ltb a m || ltb b n) ≡ not (leb m a && leb n b)
room_by a b m n = elim (dec_lt a m) [
  | yes l ↦ (λ i. lt-ltb a m l i || ltb b n) ∙ (λ i. not (sym (lt-leb m a l) i && leb n b))
  | no l ↦ elim (dec_lt b n) [
    | yes k ↦ (λ i. le-ltb a m (omega arith) i || lt-ltb b n k i) ∙ (λ i. not (sym (le-leb m a (omega arith)) i && sym (lt-leb n b k) i))
    | no k ↦
        (λ i. le-ltb a m (omega arith) i || le-ltb b n (omega arith) i)
        ∙ (λ i. not (sym (le-leb m a (omega arith)) i && sym (le-leb n b (omega arith)) i))
  ]
]

module _ (reports ticket : List ℕ) where
  pub no_room : (ltb (length reports) rows_size || ltb (length ticket) ticket_size) ≡ true → roomy reports ticket ≡ false
  no_room e = not-true (roomy reports ticket) (sym (room_by (length reports) (length ticket) rows_size ticket_size) ∙ e)

  pub room : (ltb (length reports) rows_size || ltb (length ticket) ticket_size) ≡ false → roomy reports ticket ≡ true
  room e = not-false (roomy reports ticket) (sym (room_by (length reports) (length ticket) rows_size ticket_size) ∙ e)

  pub room_rows : roomy reports ticket ≡ true → rows_size ≤ length reports
  room_rows e = leb-true rows_size (length reports) (and_left (leb rows_size (length reports)) (leb ticket_size (length ticket)) e)

  pub room_ticket : roomy reports ticket ≡ true → ticket_size ≤ length ticket
  room_ticket e = leb-true ticket_size (length ticket) (and_right (leb rows_size (length reports)) (leb ticket_size (length ticket)) e)

module _ (state log work rec reports ticket : List ℕ) where
  pub preview_short : roomy reports ticket ≡ false → PreviewsWords state log work rec reports ticket 8 reports ticket
  preview_short e = record {
    short = λ x. (refl, refl, refl);
    unfit = λ x. never x e;
    fit = λ x. never x e;
  }

  module _ (has_room : roomy reports ticket ≡ true) where
    -- no state: passes, and a ticket of zeros
    pub preview_unfit : {reports' ticket' : List ℕ} → is_state state ≡ false → RowsIn reports (replicate check_count passed) reports'
        → ticket' ≡ bytes_of_ticket no_ticket ++ drop ticket_size ticket → PreviewsWords state log work rec reports ticket 5 reports' ticket'
    preview_unfit t q b = record {
      short = λ x. never has_room x;
      unfit = λ x e. (refl, record { rows = q; bytes = b });
      fit = λ x j e. never (some_state state e) t;
    }

    module _ {r : ℕ} {reports' : List ℕ} (t : is_state state ≡ true) (p : ShowsWords state log work rec reports r reports') where
      state_of_lem : state_in state ≡ Some (judge_in state)
      state_of_lem = ap (λ (b : Bool). cond b (Some (judge_in state)) None) t

      number : r ≡ push_refusal (state_of (judge_in state) log work) rec
      number = (p.shows (judge_in state) state_of_lem).refuses

      -- what was shown, and the ticket of the record or of zeros
      preview_done : {ticket' : List ℕ} → ticket' ≡ bytes_of_ticket (ticket_for (state_of (judge_in state) log work) rec) ++ drop ticket_size ticket
          → PreviewsWords state log work rec reports ticket r reports' ticket'
      preview_done b = record {
        short = λ x. never has_room x;
        unfit = λ x e. never t (none_state state e);
        fit = λ x j e. record {
          shown = p.shown;
          held = ticket_for (state_of j log work) rec;
          shows = p.shows j e;
          answer = record {
            rows = p.rows;
            bytes = b ∙ ap (λ (i : Judge). bytes_of_ticket (ticket_for (state_of i log work) rec) ++ drop ticket_size ticket) (fit_of state t e);
          };
        };
      }

      pub preview_refused : {ticket' : List ℕ} → (r ≡ 0 → ⊥) → ticket' ≡ bytes_of_ticket no_ticket ++ drop ticket_size ticket
          → PreviewsWords state log work rec reports ticket r reports' ticket'
      preview_refused z b =
          let e : takes (state_of (judge_in state) log work) rec ≡ false = ap (λ (n : ℕ). eqb n 0) (sym number) ∙ ne_eqb r 0 z in
          preview_done (b ∙ sym (ap (λ (d : Bool). bytes_of_ticket (cond d (ticket_of (judge_in state).count rec) no_ticket) ++ drop ticket_size ticket) e))

      pub preview_taken : {ticket' : List ℕ} → r ≡ 0 → ticket' ≡ ticket_bytes (judge_in state).count rec ++ drop ticket_size ticket
          → PreviewsWords state log work rec reports ticket 0 reports' ticket'
      preview_taken {ticket'} z b =
          let e : takes (state_of (judge_in state) log work) rec ≡ true = ap (λ (n : ℕ). eqb n 0) (sym number ∙ z) in
          subst (λ (n : ℕ). PreviewsWords state log work rec reports ticket n reports' ticket') z
          (preview_done (b ∙ sym (ap (λ (d : Bool). bytes_of_ticket (cond d (ticket_of (judge_in state).count rec) no_ticket) ++ drop ticket_size ticket) e)))

      -- a record that would be taken has 368 bytes
      pub preview_size : r ≡ 0 → length rec ≡ 368
      unfolding push_refusal
      preview_size z = (room_of {cap = (judge_in state).capacity} {count = (judge_in state).count} {log = log} {work = work} {bytes = rec}
          (sym number ∙ z)).size

-- ---- a commit

-- what bytes are a ticket, and which
some_by : (b : Bool) (x k : Ticket) → cond b (Some x) None ≡ Some k → (b ≡ true) × (x ≡ k)
some_by true x k e = (refl, cc)
some_by false x k e = absurd (let z : ◌≡◌ {A = ℕ} 0 1 = cc in omega arith)

none_by : (b : Bool) (x : Ticket) → cond b (Some x) None ≡ None → b ≡ false
none_by true x e = absurd (let z : ◌≡◌ {A = ℕ} 0 1 = cc in omega arith)
none_by false x e = refl

-- what is written reads back
pub ticket_back : (k : Ticket) → k.count < 256 ^ count_size → ticket_in (bytes_of_ticket k) ≡ Some k
ticket_back k l =
    let b = ticket_has_count k.count k.rec in
    let n = ticket_count k.count k.rec l in
    let r = ticket_record k.count k.rec in
    λ i. cond (b i) (Some (ticket_of (n i) (r i))) None

module _ (bytes : List ℕ) where
  some_ticket : (k : Ticket) → ticket_in bytes ≡ Some k → (has_count bytes ≡ true) × (ticket_of (count_in bytes) (record_in bytes) ≡ k)
  some_ticket k e = some_by (has_count bytes) (ticket_of (count_in bytes) (record_in bytes)) k e

  none_ticket : ticket_in bytes ≡ None → has_count bytes ≡ false
  none_ticket e = none_by (has_count bytes) (ticket_of (count_in bytes) (record_in bytes)) e

  -- what follows the count, as the code lends it
  part_record : part count_size (length bytes) bytes ≡ record_in bytes
  part_record = let n = length-drop count_size bytes in take_all (length bytes - count_size) (drop count_size bytes) (omega arith)

module _ (state log work ticket : List ℕ) where
  pub commit_unfit : is_state state ≡ false → CommitsWords state log work ticket 5 state log work
  commit_unfit t = record {
    unfit = λ e. refl;
    short = λ j e. never (some_state state e) t;
    fit = λ j e. never (some_state state e) t;
    untouched = λ z. (refl, refl, refl);
  }

  module _ (t : is_state state ≡ true) where
    -- the judge of the state's numbers
    lent_by : (j : Judge) → state_in state ≡ Some j → lends (judge_in state) log work ≡ lends j log work
    lent_by j e = ap (λ (i : Judge). lends i log work) (fit_of state t e)

    -- refused: the words are those given
    commit_left : {r : ℕ} → (r ≡ 0 → ⊥) → ((j : Judge) → state_in state ≡ Some j → ticket_in ticket ≡ None → r ≡ cond (lends j log work) 10 5)
        → ((j : Judge) → state_in state ≡ Some j → (k : Ticket) → ticket_in ticket ≡ Some k → r ≡ commit_refusal (state_of j log work) k)
        → CommitsWords state log work ticket r state log work
    commit_left z short fit = record {
      unfit = λ e. never t (none_state state e);
      short = short;
      fit = λ j e k q. record {
        refusal = fit j e k q;
        judge = j;
        leaves = record {
          refused = λ x. refl;
          taken = λ x. absurd (z (fit j e k q ∙ eqb-true (commit_refusal (state_of j log work) k) 0 x));
        };
        words = state_words_lem state j e;
      };
      untouched = λ x. (refl, refl, refl);
    }

    -- numbers or lengths that do not suit
    pub commit_unsuited : lends (judge_in state) log work ≡ false → CommitsWords state log work ticket 5 state log work
    unfolding suits
    commit_unsuited u =
        commit_left (λ z. omega arith)
        (λ j e q. sym (ap (λ (b : Bool). cond b 10 5) (sym (lent_by j e) ∙ u)))
        (λ j e k q. sym (unfit_refusal (state_of j log work) k (sym (lent_by j e) ∙ u)))

    -- the judge's count, as the words have it
    count_at : (j : Judge) → state_in state ≡ Some j → get_or state 1 0 ≡ j.count
    unfolding judge_in
    count_at j e = ap (λ (i : Judge). i.count) (fit_of state t e)

    stale_at : (j : Judge) → state_in state ≡ Some j → (k : Ticket) → ticket_in ticket ≡ Some k → is_current ticket (get_or state 1 0) ≡ false
        → eqb k.count j.count ≡ false
    unfolding is_current
    stale_at j e k q c =
        let w = some_ticket ticket k q in
        (λ i. eqb (sym w.1 i).count (sym (count_at j e) i))
        ∙ sym (ap (λ (b : Bool). b && eqb (count_in ticket) (get_or state 1 0)) w.0) ∙ c

    -- a count that is not the judge's, or none
    pub commit_stale : lends (judge_in state) log work ≡ true → is_current ticket (get_or state 1 0) ≡ false
        → CommitsWords state log work ticket 10 state log work
    unfolding suits
    commit_stale u c =
        commit_left (λ z. omega arith)
        (λ j e q. sym (ap (λ (b : Bool). cond b 10 5) (sym (lent_by j e) ∙ u)))
        (λ j e k q.
        let l : lends j log work ≡ true = sym (lent_by j e) ∙ u in
        let d : eqb k.count j.count ≡ false = stale_at j e k q c in
        sym (stale_refusal (state_of j log work) k (λ i. l i && not (d i))))

    -- the judge's count: the push
    commit_pushed : {r : ℕ} {state' log' work' : List ℕ} → is_current ticket (get_or state 1 0) ≡ true
        → PushesWords state log work (record_in ticket) r state' log' work' → CommitsWords state log work ticket r state' log' work'
    unfolding is_current
    commit_pushed {r} {state'} {log'} {work'} c p = record {
      unfit = p.unfit;
      short = λ j e q. never (and_left (has_count ticket) (eqb (count_in ticket) (get_or state 1 0)) c) (none_ticket ticket q);
      fit = λ j e k q.
          let w = some_ticket ticket k q in
          let own : Ticket = ticket_of (count_in ticket) (record_in ticket) in
          let n : count_in ticket ≡ j.count =
          eqb-true (count_in ticket) (get_or state 1 0) (and_right (has_count ticket) (eqb (count_in ticket) (get_or state 1 0)) c) ∙ count_at j e in
          let same : commit_refusal (state_of j log work) own ≡ push_refusal (state_of j log work) (record_in ticket) =
          current_refusal (state_of j log work) own n in
          let f = p.fit j e in
          subst (λ (i : Ticket). CommittedWords j log work i r state' log' work') w.1
          (record {
            refusal = f.refusal ∙ sym same;
            judge = f.judge;
            leaves = subst (λ (m : ℕ). Takes Indexed m (state_of j log work) (record_in ticket) (state_of f.judge log' work')) (sym same) f.leaves;
            words = f.words;
          });
      untouched = p.untouched;
    }

    pub commit_done : {r : ℕ} {state' log' work' : List ℕ} → is_current ticket (get_or state 1 0) ≡ true
        → PushesWords state log work (part count_size (length ticket) ticket) r state' log' work' → CommitsWords state log work ticket r state' log' work'
    commit_done {r} {state'} {log'} {work'} c p =
        commit_pushed c (subst (λ (b : List ℕ). PushesWords state log work b r state' log' work') (part_record ticket) p)
