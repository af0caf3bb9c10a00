-- The server that a node is: its own number at first, and then what its latest RaftRecovered says.
use mathlib.Core.Path.{◌≡◌, refl, ap, ◌∙◌}
use mathlib.Core.Bool.{Bool, true, false, cond, ◌&&◌}
use mathlib.Core.List.{[], ◌∷◌}
use Rattle.std.specs.Prelude.{Option}
use Prim.Native.Nat.{ℕ}
use Rattle.record.specs.declared.named.ServerId.{ServerId}
use Rattle.record.specs.Records.{TraceRecord}
use Rattle.rules.specs.History.{History, is_kind, is_by, when, or_else, latest}
use Rattle.rules.specs.RightHalf.{tells_server, server_or, server_of}

abbrev pub server_number : ℕ → History → ℕ
server_number node h = (server_of node h).0

pub server_other : (node : ℕ) (x : TraceRecord) (h : History) → is_by node x ≡ false → server_of node (x ∷ h) ≡ server_of node h
unfolding server_of latest
server_other node x h e = rw e

pub same_server : (s t : ServerId) → s.0 ≡ t.0 → s ≡ t
same_server s t e = λ i. record { 0 = e i }

pub server_none : (node : ℕ) → server_number node [] ≡ node
unfolding server_of latest
server_none node = refl

server_cases : (node c : ℕ) (k : Bool) (o : Option ServerId)
    → (server_or node (or_else (when k (record { 0 = c })) o)).0 ≡ cond k c (server_or node o).0
server_cases node c true o = refl
server_cases node c false o = refl

pub server_step : (node : ℕ) (x : TraceRecord) (h : History) → is_by node x ≡ true → server_number node (x ∷ h) ≡ cond (is_kind 4 x) x.c (server_number node h)
unfolding server_of latest
server_step node x h b =
    server_cases node x.c (is_by node x && is_kind 4 x) (latest (tells_server node) h)
    ∙ ap (λ (t : Bool). cond (t && is_kind 4 x) x.c (server_number node h)) b
