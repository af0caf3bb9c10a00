-- `push_name`: what is written is the name, which fits its size.
use Rattle.std.proofs.Common.{subst, ap, List, ℕ, length, arith}
use Rattle.sheet_text.specs.Appends.{Appended}
use Rattle.sheet_text.proofs.Appends.{appended_most}
use Rattle.sheet_text.proofs.Names.{name_short}
use Rattle.sheet_text.proofs.text.Text.push_name.Goals as goal

pub push-requires : goal.push-requires
push-requires c = omega (arith, c.requires, ap length c.name.ensures, name_short c.args.check c.requires.1)

pub returns : goal.returns
returns c =
    appended_most (name_short c.args.check c.requires.1)
    (subst (λ (name : List ℕ). Appended (length name) c.args.self.now c.push.new.self name) c.name.ensures c.push.ensures)
