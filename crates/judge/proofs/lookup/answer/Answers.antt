-- `answer`: each question by the look-back that answers it.
use mathlib.Core.Path.{◌≡◌, refl, ap, ◌∙◌}
use mathlib.Core.Bool.{Bool, true, false}
use mir.Val.{bool_byte}
use Rattle.std.proofs.Common.{rules}
use borrow.Author.Tests.{tests}
use Rattle.history.specs.Logs.{hist}
use Rattle.history.proofs.Logs.{hist_length}
use Rattle.judge.specs.Lookups.{found_number, truth}
use Rattle.judge.proofs.Lookups.{valued_as, listed_as}
use Rattle.judge.proofs.lookup.answer.Goals as goal

byte_truth : (b : Bool) → bool_byte b ≡ truth b
byte_truth true = refl
byte_truth false = refl

pub returns-in-Before : goal.returns-in-Before
returns-in-Before c =
    let a = c.args in
    valued_as c.in-Before.is a.out.now (λ h. refl)
    (λ i. c.found_number.ensures ∙ ap found_number (c.before-in-Before.ensures i.descriptors))

pub returns-in-At : goal.returns-in-At
returns-in-At c =
    let a = c.args in
    valued_as c.in-At.is a.out.now (λ h. refl)
    (λ i. c.found_number-in-At.ensures ∙ ap found_number (c.at.ensures i.descriptors))

pub returns-in-FirstAtGeneration : goal.returns-in-FirstAtGeneration
returns-in-FirstAtGeneration c =
    let a = c.args in
    valued_as c.in-FirstAtGeneration.is a.out.now (λ h. refl)
    (λ i. c.found_number-in-FirstAtGeneration.ensures ∙ ap found_number (c.first_at_generation-first.ensures i.descriptors))

pub returns-in-Statements : goal.returns-in-Statements
returns-in-Statements c =
    let a = c.args in
    valued_as c.in-Statements.is a.out.now (λ h. refl)
    (λ i. let p = a.past.now in c.statements.ensures (hist p.log.now p.count) (hist_length p.log.now p.count) i.descriptors)

pub returns-in-IsEmpty : goal.returns-in-IsEmpty
returns-in-IsEmpty c =
    let a = c.args in
    valued_as c.in-IsEmpty.is a.out.now (λ h. refl)
    (λ i. c.from.ensures ∙ byte_truth c.is_empty.result ∙ ap truth (let p = a.past.now in c.is_empty.ensures (hist p.log.now p.count) (hist_length p.log.now p.count) i.descriptors))

pub returns-in-HoldersOf : goal.returns-in-HoldersOf
returns-in-HoldersOf c =
    let h = c.holders_of in
    let same : c.map.result ≡ h.result = search (rules, tests) in
    rw same (listed_as c.in-HoldersOf.is refl h.ensures.kept (λ i. h.ensures.listed_in i.ids))

pub returns-in-Blocks : goal.returns-in-Blocks
returns-in-Blocks c =
    let b = c.blocks-in-Blocks in
    let same : c.map-in-Blocks.result ≡ b.result = search (rules, tests) in
    rw same (listed_as c.in-Blocks.is refl b.ensures.kept (λ i. b.ensures.listed_in i.ids))
