-- What appending to a text means; words, numbers in decimal and rows of numbers as bytes.
use Rattle.std.specs.Prelude.{ℕ, zero, suc, ◌+◌, ◌-◌, ◌*◌, ◌/◌, ◌%◌, List, [], ◌∷◌, ◌++◌, ltb, eqb, ℤ, pos, negsuc, length, take, get_or}
use Prim.Native.Char.{code}
use Prim.Native.String.{String, [] as empty, ◌∷◌ as ◌then◌}
use Rattle.getbits.specs.Chain.{pick}

-- a text that has room for n bytes, after bytes are put behind it: those that do not fit are dropped
unfoldable pub put : ℕ → List ℕ → List ℕ → List ℕ
put n text bytes = text ++ take (n - length text) bytes

-- a word's bytes: the code of each character
unfoldable pub word : String → List ℕ
word empty = []
word (c then s) = code c ∷ word s

-- the ASCII codes
abbrev pub blank : ℕ
blank = 32

abbrev pub newline : ℕ
newline = 10

abbrev pub minus : ℕ
minus = 45

abbrev pub mark : ℕ
mark = 35

abbrev pub digit : ℕ → ℕ
digit d = 48 + d

-- n in at most k digits
unfoldable pub decimal_in : ℕ → ℕ → List ℕ
decimal_in zero n = []
decimal_in (suc k) n = pick (ltb n 10) (digit n ∷ []) (decimal_in k (n / 10) ++ (digit (n % 10) ∷ []))

-- n in decimal, the most significant digit first, with no zero in front; n has at most n + 1 digits
unfoldable pub decimal : ℕ → List ℕ
decimal n = decimal_in (suc n) n

-- a signed number in decimal: a minus in front of a negative one
unfoldable pub signed : ℤ → List ℕ
signed (pos n) = decimal n
signed (negsuc n) = minus ∷ decimal (suc n)

-- numbers, a blank in front of each
unfoldable pub nexts : List ℕ → List ℕ
nexts [] = []
nexts (x ∷ xs) = blank ∷ (decimal x ++ nexts xs)

-- numbers with one blank between
unfoldable pub row : List ℕ → List ℕ
row [] = []
row (x ∷ xs) = decimal x ++ nexts xs

-- a template, each # of it replaced by the next of some numbers from the i-th on; 0 where there is none
unfoldable pub filled : List ℕ → List ℤ → ℕ → List ℕ
filled [] xs i = []
filled (c ∷ cs) xs i = pick (eqb c mark) (signed (get_or xs i (pos 0)) ++ filled cs xs (suc i)) (c ∷ filled cs xs i)

-- a line of bytes ends
abbrev pub line : List ℕ → List ℕ
line bytes = bytes ++ (newline ∷ [])

-- words, a line each
unfoldable pub lines : List String → List ℕ
lines [] = []
lines (s ∷ ss) = line (word s) ++ lines ss

-- the number that digits write, read from the left, v before them
unfoldable pub value_from : ℕ → List ℕ → ℕ
value_from v [] = v
value_from v (c ∷ cs) = value_from (10 * v + (c - 48)) cs
