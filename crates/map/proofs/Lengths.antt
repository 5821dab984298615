-- How long numbers and lines are.
use Rattle.std.proofs.Common.{◌≡◌, ℕ, ◌+◌, ◌<◌, ◌≤◌, length, decimal, arith}
use Rattle.std.proofs.lemmas.List.{length-append}
use Rattle.std.proofs.lemmas.Fmt.{length-decimal-le}
use Rattle.rules.specs.Maps.{bank_line}
use Rattle.map.specs.Maps.{fields}

pub length_fields : (a b c : ℕ) → length (fields a b c) ≡ 4 + (length (decimal a) + length (decimal b) + length (decimal c))
length_fields a b c = simp length-append (omega arith)

-- the line of a bank
pub bank_short : (b f c : ℕ) → b < 16 → f < 4294967296 → c < 4294967296 → length (bank_line b f c) ≤ 27
bank_short b f c k l m =
    let whole = length_fields b f c in
    let first = length-decimal-le 2 b (omega arith) (omega arith) (omega arith) in
    let second = length-decimal-le 10 f (omega arith) (omega arith) (omega arith) in
    let third = length-decimal-le 10 c (omega arith) (omega arith) (omega arith) in omega arith

-- the line of a home
pub home_short : (x b p : ℕ) → x < 256 → b < 16 → p < 4294967296 → length (fields x b p) ≤ 19
home_short x b p k l m =
    let whole = length_fields x b p in
    let first = length-decimal-le 3 x (omega arith) (omega arith) (omega arith) in
    let second = length-decimal-le 2 b (omega arith) (omega arith) (omega arith) in
    let third = length-decimal-le 10 p (omega arith) (omega arith) (omega arith) in omega arith
