-- What can be said of an input that was read: how many bytes stand at the start of the buffer. Which bytes these are the
-- contract of a read does not say.
use Rattle.std.specs.Prelude.{ℕ, zero, suc, ◌+◌, ◌≤◌, ◌<◌, min, List, Result, Ok, Err}
use Rattle.std.specs.declared.ops.ControlFlow.{ControlFlow}
use Rattle.std.specs.declared.ops.ControlFlow.TheVariants.{Continue, Break}
use Rattle.io.specs.Counts.{IsPrefixLen}

abbrev pub Stored : {E : Type 0} → Result ℕ E → List ℕ → Type 0
Stored (Ok n) buf = IsPrefixLen n buf
Stored (Err e) buf = Unit {0}

-- ---- Only for laws, proofs and private functions: no public contract and no theorem cites what follows.

-- no byte more is the end of the input
abbrev pub turn_of : {E : Type 0} → ℕ → ℕ → ControlFlow (Result ℕ E) ℕ
turn_of done zero = Break (Ok done)
turn_of done (suc n) = Continue (done + suc n)

-- what the answer of a read means that asked for so many bytes, where some are stored: one that failed ends it, whatever is stored
abbrev pub turn_after : {E : Type 0} → Result ℕ E → ℕ → ℕ → ControlFlow (Result ℕ E) ℕ
turn_after (Ok k) done asked = turn_of done (min k asked)
turn_after (Err e) done asked = Break (Err e)

-- after a read the bytes that are stored stand within a buffer of so many, and where the reading goes on they are more than before
abbrev pub Within : {E : Type 0} → ControlFlow (Result ℕ E) ℕ → ℕ → ℕ → Type 0
Within (Continue n) done length = (done < n) × (n ≤ length)
Within (Break (Ok n)) done length = n ≤ length
Within (Break (Err e)) done length = Unit {0}
