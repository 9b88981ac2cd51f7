-- Calls in a row, each on what the one before returned, as the definitions nest them. Assumes nothing.
use Rattle.std.proofs.Common.{◌≡◌, ℕ, List}
use Rattle.blake2b.specs.Blake2b.{round}
use Rattle.blake2b_compress.specs.Parts.{on_columns, on_diagonals}
use Rattle.blake2b_compress.proofs.PartsLaws.{round-halves}

-- two calls, with four words each that are known by equations
pub words-halves : (f g : List ℕ → ℕ → ℕ → ℕ → ℕ → List ℕ) {v w z : List ℕ} {a b c d e i m n a' b' c' d' e' i' m' n' : ℕ}
    → a ≡ a' → b ≡ b' → c ≡ c' → d ≡ d' → w ≡ f v a b c d → e ≡ e' → i ≡ i' → m ≡ m' → n ≡ n' → z ≡ g w e i m n
    → z ≡ g (f v a' b' c' d') e' i' m' n'
words-halves f g ea eb ec ed ew ee ei em en ez = cc

-- four rounds, each of its calls on the columns and on the diagonals
pairs_four : (f g : ℕ → List ℕ → List ℕ) (p q r s : ℕ) {v a b c d e i j k : List ℕ}
    → a ≡ f p v → b ≡ g p a → c ≡ f q b → d ≡ g q c → e ≡ f r d → i ≡ g r e → j ≡ f s i → k ≡ g s j
    → k ≡ g s (f s (g r (f r (g q (f q (g p (f p v)))))))
pairs_four f g p q r s ea eb ec ed ee ei ej ek = cc

pub rounds-four : (m v : List ℕ) (p q r s : ℕ) {a b c d e i j k : List ℕ}
    → a ≡ on_columns m p v → b ≡ on_diagonals m p a → c ≡ on_columns m q b → d ≡ on_diagonals m q c
    → e ≡ on_columns m r d → i ≡ on_diagonals m r e → j ≡ on_columns m s i → k ≡ on_diagonals m s j
    → k ≡ round m s (round m r (round m q (round m p v)))
rounds-four m v p q r s ea eb ec ed ee ei ej ek =
    rw (round-halves, round-halves, round-halves, round-halves) (pairs_four (on_columns m) (on_diagonals m) p q r s ea eb ec ed ee ei ej ek)
