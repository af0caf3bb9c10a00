-- The 32 columns of the work area: which place each chain and each cell has. Word k of column c is at c × C + k.
use Rattle.std.specs.Prelude.{ℕ}

-- `Descriptors`: the applied indexes by node and range; the standing values by range; the statements by range; the first
-- value of each range and generation; the count of statements, with whether a value stands,
-- and a mark of a value that rises above all before it
abbrev pub applied_heads : ℕ
applied_heads = 0

abbrev pub applied_links : ℕ
applied_links = 1

abbrev pub standing_heads : ℕ
standing_heads = 2

abbrev pub standing_links : ℕ
standing_links = 3

abbrev pub stated_heads : ℕ
stated_heads = 4

abbrev pub stated_links : ℕ
stated_links = 5

abbrev pub generation_heads : ℕ
generation_heads = 6

abbrev pub generation_links : ℕ
generation_links = 7

abbrev pub counts : ℕ
counts = 8

-- `IdsUnique` and `GenerationsRise`: the first grants by index and the writes that count by range and index
abbrev pub first_heads : ℕ
first_heads = 9

abbrev pub first_links : ℕ
first_links = 10

-- `GenerationsRise`: the writes of a key, and the generation of each
abbrev pub key_heads : ℕ
key_heads = 11

abbrev pub key_links : ℕ
key_links = 12

abbrev pub written_at : ℕ
written_at = 13

-- `IdsUnique`: the latest block so far, and the greatest last so far
abbrev pub block_links : ℕ
block_links = 14

abbrev pub greatest_last : ℕ
greatest_last = 15

-- `OneOwnerPerKey`: what says whether a node holds a range, by both; a node's records
abbrev pub hold_heads : ℕ
hold_heads = 16

abbrev pub hold_links : ℕ
hold_links = 17

abbrev pub node_heads : ℕ
node_heads = 18

abbrev pub node_links : ℕ
node_links = 19

-- the range that a record makes its node hold anew, and a node's latest crash or refusal
abbrev pub newly_held : ℕ
newly_held = 20

abbrev pub ended_at : ℕ
ended_at = 21

-- the right half's clause, as of each record for its node: the server, the latest RangesRestated since a crash, the
-- latest refusal, the pending RangeSplit; the record that names a registered split's right range, with the latest
-- registering record so far; the registered splits by parent and index; the recorded indexes by range
abbrev pub server_at : ℕ
server_at = 22

abbrev pub restated_at : ℕ
restated_at = 23

abbrev pub refused_at : ℕ
refused_at = 24

abbrev pub pending_at : ℕ
pending_at = 25

abbrev pub registered_by : ℕ
registered_by = 26

abbrev pub split_heads : ℕ
split_heads = 28

abbrev pub split_links : ℕ
split_links = 29

abbrev pub recorded_heads : ℕ
recorded_heads = 30

abbrev pub recorded_links : ℕ
recorded_links = 31

-- `MetaNeverGoesBack`: the latest name so far, and a mark of a name that surpasses all before it
abbrev pub latest_name : ℕ
latest_name = 27
