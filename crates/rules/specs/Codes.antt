-- The codes: their names, and the number of each.
use Rattle.std.specs.Prelude.{Bool, true, false, cond, ◌&&◌, List, [], ◌∷◌, ◌≡◌, refl, ℕ, zero, suc, eqb, leb, ℤ, pos, negsuc, neg_ℤ}
use Rattle.std.proofs.Common.{sym, ap, ◌∙◌}
use Rattle.std.proofs.Math.Decide.{ℕ_discrete}

pub data Code : Type 0 where
  OK WAITS H-NUMBER H-QUEUE H-SERVED H-TWICE H-FREE H-CALL H-PAR E-NOEXS E-TPRI E-ILTIME E-CTX E-SELF E-DMT H-NODMT H-SUS E-NOSUS E-NOWAI E-QOVR H-POLL H-MSG H-NEST H-EXIST H-ILBLK H-USED H-IDLE E-TMOUT E-RLWAI : Code

abbrev pub minus : ℕ → ℤ
minus n = neg_ℤ (pos n)

-- normal end is 0, a caller that must wait gets 1, and every refusal is negative
unfoldable pub number : Code → ℤ
number OK = pos 0
number WAITS = pos 1
number H-NUMBER = minus 20
number H-QUEUE = minus 21
number H-SERVED = minus 22
number H-TWICE = minus 23
number H-FREE = minus 24
number H-CALL = minus 1
number H-PAR = minus 2
number E-NOEXS = minus 2100
number E-TPRI = minus 1830
number E-ILTIME = minus 1831
number E-CTX = minus 2629
number E-SELF = minus 2097
number E-DMT = minus 2101
number H-NODMT = minus 3
number H-SUS = minus 4
number E-NOSUS = minus 2104
number E-NOWAI = minus 2110
number E-QOVR = minus 2889
number H-POLL = minus 5
number H-MSG = minus 6
number H-NEST = minus 7
number H-EXIST = minus 8
number H-ILBLK = minus 10
number H-USED = minus 11
number H-IDLE = minus 12
number E-TMOUT = minus 3413
number E-RLWAI = minus 3414

abbrev pub negative : ℤ → Bool
negative (pos n) = false
negative (negsuc n) = true

-- two numbers are one
abbrev pub same : ℤ → ℤ → Bool
same (pos m) (pos n) = eqb m n
same (pos m) (negsuc n) = false
same (negsuc m) (pos n) = false
same (negsuc m) (negsuc n) = eqb m n

-- the code refuses: it is negative
unfoldable pub refuses : Code → Bool
unfolding number
refuses c = negative (number c)

abbrev pub in_damage : ℤ → Bool
in_damage (pos n) = false
in_damage (negsuc n) = leb 19 n && leb n 23

-- the code tells that the state is damaged: -20 to -24
unfoldable pub tells_damage : Code → Bool
unfolding number
tells_damage c = in_damage (number c)

-- ---- each code has a number of its own: a code is read back from its number, and so equality of codes is decided

-- the refusals, each beside one less than its number without the sign
abbrev refusals : List (ℕ × Code)
refusals =
    (19, H-NUMBER) ∷ (20, H-QUEUE) ∷ (21, H-SERVED) ∷ (22, H-TWICE) ∷ (23, H-FREE) ∷ (0, H-CALL) ∷ (1, H-PAR) ∷ (2099, E-NOEXS) ∷ (1829, E-TPRI) ∷ (1830, E-ILTIME) ∷ (2628, E-CTX) ∷ (2096, E-SELF) ∷ (2100, E-DMT) ∷ (2, H-NODMT) ∷ (3, H-SUS) ∷ (2103, E-NOSUS) ∷ (2109, E-NOWAI) ∷ (2888, E-QOVR) ∷ (4, H-POLL) ∷ (5, H-MSG) ∷ (6, H-NEST) ∷ (7, H-EXIST) ∷ (9, H-ILBLK) ∷ (10, H-USED) ∷ (11, H-IDLE) ∷ (3412, E-TMOUT) ∷ (3413, E-RLWAI) ∷ []

abbrev found : ℕ → List (ℕ × Code) → Code
found n [] = WAITS
found n ((k, c) ∷ l) = cond (eqb n k) c (found n l)

-- 0 and 1 are themselves, and -(n + 1) is n + 2
abbrev counted : ℤ → ℕ
counted (pos n) = n
counted (negsuc n) = suc (suc n)

abbrev named : ℕ → Code
named zero = OK
named (suc zero) = WAITS
named (suc (suc n)) = found n refusals

read_back : (c : Code) → named (counted (number c)) ≡ c
unfolding number
read_back OK = refl
read_back WAITS = refl
read_back H-NUMBER = refl
read_back H-QUEUE = refl
read_back H-SERVED = refl
read_back H-TWICE = refl
read_back H-FREE = refl
read_back H-CALL = refl
read_back H-PAR = refl
read_back E-NOEXS = refl
read_back E-TPRI = refl
read_back E-ILTIME = refl
read_back E-CTX = refl
read_back E-SELF = refl
read_back E-DMT = refl
read_back H-NODMT = refl
read_back H-SUS = refl
read_back E-NOSUS = refl
read_back E-NOWAI = refl
read_back E-QOVR = refl
read_back H-POLL = refl
read_back H-MSG = refl
read_back H-NEST = refl
read_back H-EXIST = refl
read_back H-ILBLK = refl
read_back H-USED = refl
read_back H-IDLE = refl
read_back E-TMOUT = refl
read_back E-RLWAI = refl

pub own_count : (c d : Code) → counted (number c) ≡ counted (number d) → c ≡ d
own_count c d e = sym (read_back c) ∙ ap named e ∙ read_back d

pub own_number : (c d : Code) → number c ≡ number d → c ≡ d
own_number c d e = own_count c d (ap counted e)

unfoldable pub by_count : (c d : Code) → Dec (counted (number c) ≡ counted (number d)) → Dec (c ≡ d)
by_count c d (yes e) = yes (own_count c d e)
by_count c d (no h) = no (λ e. h (ap (λ b. counted (number b)) e))

unfoldable pub Code-discrete : (c d : Code) → Dec (c ≡ d)
unfolding number by_count ℕ_discrete
Code-discrete c d = by_count c d (ℕ_discrete (counted (number c)) (counted (number d)))
