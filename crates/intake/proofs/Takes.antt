-- A record judged, taken or refused: what the parts of that come to. Assumes nothing.
use mathlib.Core.Path.{◌≡◌, refl, sym, ap, subst, ◌∙◌}
use mathlib.Core.List.{List}
use Prim.Native.Nat.{ℕ}
use native.Mathlib.Omega.{arith}
use lib.ListN.{length}
use Rattle.record.specs.Numbers.{byte_at}
use Rattle.record.specs.Records.{decode}
use Rattle.rules.specs.declared.Opening.{Opening}
use Rattle.decision.specs.declared.Concerned.{Concerned}
use Rattle.decision.specs.Refusals.{push_refusal_by, concerned_of}
use Rattle.intake.specs.Steps.{JudgedIn}
use Rattle.intake.specs.Takes.{PreviewsIn, Keepable, KeptIn, TakesIn}
use Rattle.decision.proofs.Decisions.{Room, room_of, room_bounds}

-- a record's kind is its first byte
pub kind_is : (bytes : List ℕ) → (decode bytes).kind ≡ byte_at 0 bytes
unfolding decode
kind_is bytes = refl

module _ (o : Opening) (cap n e : ℕ) (log work rows bytes : List ℕ) where
  -- refused
  pub previews_off : {f : ℕ} → f ≡ push_refusal_by cap n log (length work) bytes → (f ≡ 0 → ⊥) → PreviewsIn o cap n e log work rows bytes f rows
  previews_off q z = record {
    refusal = q;
    refused = λ x. refl;
    judged = λ x. absurd (z x);
    size = refl;
    fits = λ f. f;
  }

  -- judged
  pub previews_on : {concerned : Concerned} {rec rows' : List ℕ} → 0 ≡ push_refusal_by cap n log (length work) bytes → rec ≡ bytes
      → concerned ≡ concerned_of (byte_at 0 bytes) → JudgedIn o cap log work n e rec concerned rows rows' → PreviewsIn o cap n e log work rows bytes 0 rows'
  previews_on {concerned} {rec} {rows'} q w u j =
      let j : JudgedIn o cap log work n e bytes concerned rows rows' = subst (λ s. JudgedIn o cap log work n e s concerned rows rows') w j in
      record {
        refusal = q;
        refused = λ x. absurd (x refl);
        judged = λ x i v are. j.judged i v (u ∙ ap concerned_of (sym (kind_is bytes))) are;
        size = j.size;
        fits = j.fits;
      }

  module _ {r : ℕ} {rows' : List ℕ} (p : PreviewsIn o cap n e log work rows bytes r rows') where
    -- what is refused in a preview is refused, and everything is as it stood
    pub takes_off : (r ≡ 0 → ⊥) → TakesIn o cap n e log work rows bytes r log work rows'
    takes_off z = record {
      refusal = p.refusal;
      refused = λ x. (refl, refl, p.refused z);
      taken = λ x. absurd (z x);
      size = p.size;
      fits = p.fits;
    }

    module _ (z : r ≡ 0) where
      room : Room cap n log work bytes
      room = room_of (sym p.refusal ∙ z)

      -- what the keeping of a record asks for
      pub keepable : Keepable cap n log work
      keepable =
          let r = room in
          let l = r.suits.log in
          let m = r.room in
          record { bounds = room_bounds r; holds = omega arith; room = m }

      -- taken: judged and kept
      pub takes_on : {rec log' work' : List ℕ} → rec ≡ bytes → KeptIn cap n log work rec log' work' → TakesIn o cap n e log work rows bytes 0 log' work' rows'
      takes_on {rec} {log'} {work'} w k =
          let k : KeptIn cap n log work bytes log' work' = subst (λ s. KeptIn cap n log work s log' work') w k in
          record {
            refusal = sym z ∙ p.refusal;
            refused = λ x. absurd (x refl);
            taken = λ x. record { appended = k.appended; noted = k.noted; judged = p.judged z };
            size = p.size;
            fits = p.fits;
          }
