-- `report::print_read` meets its contract: `unread` and its line end are seven bytes, and otherwise the bytes are those of what was read.
use Rattle.std.proofs.Common.{◌≡◌, ℕ, ◌%◌, ◌^◌, ◌<◌, ◌≤◌, min, List, length, take, sym, ap, ◌∙◌, ⊎_elim, arith, length-take-le, take_all, Result, Ok, Err}
use Rattle.wire.specs.Numbers.{lt-or_ge}
use Rattle.report.specs.Report.{session_text, input_text}
use Rattle.report.proofs.print_read.Goals as goal

take_min : (n k : ℕ) (l : List ℕ) → k ≡ min n (length l) → take k l ≡ take n l
take_min n k l h =
    ⊎_elim
    (λ (g : length l < n). take_all k l (omega arith) ∙ sym (take_all n l (omega arith)))
    (λ (g : n ≤ length l). let e : k ≡ n = omega arith in ap (λ (j : ℕ). take j l) e)
    (lt-or_ge (length l) n)

read-bytes : {E : Type 0} (read : Result ℕ E) (n k r : ℕ) (buf : List ℕ) → read ≡ Ok n → k ≡ min n (length buf)
    → r ≡ length (session_text (take k buf)) % 2 ^ 64 → r ≡ length (input_text read buf) % 2 ^ 64
unfolding input_text
read-bytes read n k r buf e h q = rw e (q ∙ ap (λ (s : List ℕ). length (session_text s) % 2 ^ 64) (take_min n k buf h))

not-read : {E : Type 0} (read : Result ℕ E) (e : E) (buf : List ℕ) → read ≡ Err e → 7 ≡ length (input_text read buf) % 2 ^ 64
unfolding input_text
not-read read e buf q = rw q

pub slice_bounds-print_session-end : goal.slice_bounds-print_session-end
slice_bounds-print_session-end c = sym (length-take-le _ _ (omega (arith, c.min.ensures)))

pub returns-in-Ok : goal.returns-in-Ok
returns-in-Ok c = read-bytes _ _ _ _ _ c.in-Ok.is c.min.ensures c.print_session.ensures

pub returns-in-Err : goal.returns-in-Err
returns-in-Err c = not-read _ _ _ c.in-Err.is
