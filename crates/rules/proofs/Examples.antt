-- The tables of examples: the rules' answer to every row is the row's report. The checker computes all rows of a table at once.
use mathlib.Core.Path.{◌≡◌, refl}
use mathlib.Core.List.{[], ◌∷◌, map}
use Rattle.record.specs.Keys.{key_ltb, list_eqb}
use Rattle.record.specs.Numbers.{big_endian_from}
use Rattle.rules.specs.History.{any_of, those, latest_of, earliest_of, greatest_of, lowest_of, told, latest, firsts}
use Rattle.rules.specs.Cases.{earliest_case, first_case}
use Rattle.rules.specs.Descriptors.{held_by, held_eqb, applied, reached, role_of, standing, stated, before_in, at_in, first_at_generation_in, put_fault, puts_differ, ahead_fault, differs_fault, statement_fault, agreement, before, at, first_at_generation, statements, is_empty}
use Rattle.rules.specs.IdsUnique.{first_grants, grant_eqb, blocks_of, ids_at, insert_block, in_order, blocks, holders_of}
use Rattle.rules.specs.OneOwnerPerKey.{hold_of, ranges_of, lowest_meeting, overlap_at, group_of, is_named, install_at, twice_at}
use Rattle.rules.specs.GenerationsRise.{writes, generations_at}
use Rattle.rules.specs.RightHalf.{server_of, is_restated, pending, registered, registers, recorded, has_applied, own_debt, debt_at, owes, restated_with, missing_fault, nodes_of, registering_fault, half_at}
use Rattle.rules.specs.MetaNeverGoesBack.{names, standing_name, key_fault, bounds, least_key, won_fault, meta_at}
use Rattle.rules.specs.Events.{events, records_in}
use Rattle.rules.specs.Reports.{report_of}
use Rattle.rules.specs.Examples.{Row, table, answer}
use Rattle.rules.specs.MoreExamples.{further}
use Rattle.rules.specs.RightHalfExamples.{right_halves}
use Rattle.rules.specs.EventExamples.{event_rows, beginnings, Continuing, continuing, is_stray}
use Rattle.rules.specs.LookUpExamples.{LookUp, look_ups, look_up, block_words}

-- E1 to E10 and document 01's wrong answers
pub examples : map answer table ≡ map (λ (r : Row). r.report) table
unfolding key_ltb list_eqb big_endian_from any_of those latest_of earliest_of greatest_of lowest_of told latest firsts earliest_case first_case held_by held_eqb applied
    reached role_of standing stated before_in at_in first_at_generation_in put_fault puts_differ ahead_fault differs_fault statement_fault agreement before
    first_at_generation first_grants grant_eqb blocks_of ids_at hold_of ranges_of lowest_meeting overlap_at group_of is_named install_at twice_at writes generations_at
    server_of is_restated pending registered registers recorded has_applied own_debt debt_at owes restated_with missing_fault nodes_of registering_fault half_at names
    standing_name key_fault bounds least_key won_fault meta_at events report_of
examples = refl

-- further rows of every check but half
pub more_examples : map answer further ≡ map (λ (r : Row). r.report) further
unfolding key_ltb list_eqb big_endian_from any_of those latest_of earliest_of greatest_of lowest_of told latest firsts earliest_case first_case held_by held_eqb applied
    reached role_of standing stated before_in at_in first_at_generation_in put_fault puts_differ ahead_fault differs_fault statement_fault agreement before
    first_at_generation first_grants grant_eqb blocks_of ids_at hold_of ranges_of lowest_meeting overlap_at group_of is_named install_at twice_at writes generations_at
    server_of is_restated pending registered registers recorded has_applied own_debt debt_at owes restated_with missing_fault nodes_of registering_fault half_at names
    standing_name key_fault bounds least_key won_fault meta_at events report_of
more_examples = refl

-- further rows of half
pub right_half_examples : map answer right_halves ≡ map (λ (r : Row). r.report) right_halves
unfolding key_ltb list_eqb big_endian_from any_of those latest_of earliest_of greatest_of lowest_of told latest firsts earliest_case first_case held_by held_eqb applied
    reached role_of standing stated before_in at_in first_at_generation_in put_fault puts_differ ahead_fault differs_fault statement_fault agreement before
    first_at_generation first_grants grant_eqb blocks_of ids_at hold_of ranges_of lowest_meeting overlap_at group_of is_named install_at twice_at writes generations_at
    server_of is_restated pending registered registers recorded has_applied own_debt debt_at owes restated_with missing_fault nodes_of registering_fault half_at names
    standing_name key_fault bounds least_key won_fault meta_at events report_of
right_half_examples = refl

-- rows with events of several records
pub event_examples : map answer event_rows ≡ map (λ (r : Row). r.report) event_rows
unfolding key_ltb list_eqb big_endian_from any_of those latest_of earliest_of greatest_of lowest_of told latest firsts earliest_case first_case held_by held_eqb applied
    reached role_of standing stated before_in at_in first_at_generation_in put_fault puts_differ ahead_fault differs_fault statement_fault agreement before
    first_at_generation first_grants grant_eqb blocks_of ids_at hold_of ranges_of lowest_meeting overlap_at group_of is_named install_at twice_at writes generations_at
    server_of is_restated pending registered registers recorded has_applied own_debt debt_at owes restated_with missing_fault nodes_of registering_fault half_at names
    standing_name key_fault bounds least_key won_fault meta_at events report_of
event_examples = refl

-- beginnings by events, and which records may continue
pub beginnings_are : beginnings ≡ 4 ∷ 0 ∷ 1 ∷ 4 ∷ 5 ∷ 7 ∷ []
unfolding events records_in
beginnings_are = refl

pub strays : map is_stray continuing ≡ map (λ (q : Continuing). q.refused) continuing
strays = refl

-- the look-ups
pub look_ups_lem : map look_up look_ups ≡ map (λ (r : LookUp). r.answer) look_ups
unfolding list_eqb any_of those latest_of earliest_of greatest_of told latest firsts held_by applied reached role_of standing stated before_in at_in
    first_at_generation_in before at first_at_generation statements is_empty first_grants blocks_of insert_block in_order blocks holders_of block_words
look_ups_lem = refl
