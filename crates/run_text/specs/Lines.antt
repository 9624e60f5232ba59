-- The lines of a text, as the numbers of its bytes. Numbers are decimal, with single spaces between them, and a line feed ends each line.
use Rattle.std.specs.Prelude.{cond, List, [], ◌∷◌, ◌++◌, ℕ, zero, suc, ◌+◌, ◌-◌, ◌*◌, ◌/◌, ◌%◌, ◌≤◌, ltb, ℤ, pos, negsuc}
use Rattle.run_text.specs.Ascii.{ascii}

-- ---- numbers

-- the digits of n, at most k of them before the last
unfoldable pub digits : ℕ → ℕ → List ℕ
digits zero n = (48 + n) ∷ []
digits (suc k) n = let more = digits k (n / 10) ++ ((48 + n % 10) ∷ []) in cond (ltb n 10) ((48 + n) ∷ []) more

-- n has fewer than n digits before the last
unfoldable pub decimal : ℕ → List ℕ
decimal n = digits n n

-- "0" to "9": `decimal_digits`
abbrev pub Digit : ℕ → Type 0
Digit d = (48 ≤ d) × (d ≤ 57)

-- the number that digits name, behind those of m: `decimal_value` reads a number back
unfoldable pub value_from : ℕ → List ℕ → ℕ
value_from m [] = m
value_from m (d ∷ l) = value_from (10 * m + (d - 48)) l

unfoldable pub signed : ℤ → List ℕ
signed (pos n) = decimal n
signed (negsuc n) = 45 ∷ decimal (suc n)

-- ---- lines

-- numbers, a space before each, and the end of the line
unfoldable pub fields : List ℤ → List ℕ
fields [] = 10 ∷ []
fields (x ∷ l) = 32 ∷ (signed x ++ fields l)

-- "start" and the running task
unfoldable pub start_line : ℕ → List ℕ
start_line runs = ascii "start" ++ fields (pos runs ∷ [])

-- "refused", the fault's digit and the place
unfoldable pub refusal : ℕ → ℕ → List ℕ
refusal fault place = ascii "refused" ++ fields (pos fault ∷ pos place ∷ [])

-- the number of an event and those of its answer
unfoldable pub event_line : ℕ → List ℤ → List ℕ
event_line number answer = decimal number ++ fields answer

-- a number alone
unfoldable pub count_line : ℕ → List ℕ
count_line n = decimal n ++ fields []

-- no line that a recorder writes is longer: it is that of an event whose six numbers have ten digits and whose code has a sign
abbrev pub longest_line : ℕ
longest_line = 67
