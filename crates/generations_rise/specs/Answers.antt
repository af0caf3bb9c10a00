-- What the answers of this crate's functions stand for in the rules.
use Rattle.std.specs.Prelude.{Bool, ◌&&◌, ◌||◌, not, ℕ, eqb, ltb, Option, None, Some}
use Rattle.record.specs.Records.{TraceRecord}
use Rattle.rules.specs.History.{History}
use Rattle.rules.specs.GenerationsRise.{Write}
use Rattle.firsts.specs.Columns.{first_write}
use Rattle.generations_rise.specs.declared.write.Written.{Written}
use Rattle.generations_rise.specs.declared.write.Written.TheVariants.{Not, Unrated, Rated}

-- what a record's write counts as: none, one with no generation, one at a generation
abbrev pub rated_as : Option ℕ → Written
rated_as None = Unrated
rated_as (Some g) = Rated g

abbrev pub written_of : Option Write → Written
written_of None = Not
written_of (Some w) = rated_as w.generation

unfoldable pub written_as : TraceRecord → History → Written
written_as x h = written_of (first_write x h)

-- "a higher generation, or another range and the same generation"
abbrev pub against : ℕ → ℕ → ℕ → ℕ → Bool
against range generation by last = ltb generation last || (not (eqb by range) && eqb last generation)
