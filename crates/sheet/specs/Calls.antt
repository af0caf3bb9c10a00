-- What can be said of reading and writing: how many bytes. Which bytes they are, the system's calls promise nothing of.
use Rattle.std.specs.Prelude.{◌≡◌, List, ℕ, ◌≤◌, ◌<◌, length, take, Result, Ok, Err}
use Rattle.std.specs.declared.io.Error.{Error}
use Rattle.sheet.specs.declared.output.Stopped.{Stopped}

-- the bytes that were read are the front of the buffer: so many are in it, and its front of that length has so many
abbrev pub Held : Result ℕ Error → List ℕ → Type 0
Held (Ok n) buf = (n ≤ length buf) × (n ≡ length (take n buf))
Held (Err e) buf = Unit {0}

-- a write that stopped has left some of the bytes
abbrev pub Short : Result Unit Stopped → List ℕ → Type 0
Short (Ok u) buf = Unit {0}
Short (Err s) buf = s.done < length buf
