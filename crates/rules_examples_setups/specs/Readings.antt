-- Setups that are refused, and accepted ones near them.
use Rattle.std.specs.Prelude.{List, [], ◌∷◌, ◌++◌, map, ℕ, ◌-◌, ◌^◌, replicate}
use Rattle.rules.specs.Setup.{Fault, S1, S2, S3, S4, Read, got, refused, and_then, setup}
use Rattle.rules.specs.Runs.{answers}
use Rattle.rules_examples.specs.Bytes.{bytes}
use Rattle.rules_examples.specs.BenchSheet.{bench_bytes}

-- the bytes, and what the reader says: accepted, up to which offset, or the first fault and its place
pub record Reading : Type 0 where
  pub bytes : List ℕ
  pub gives : Read (Unit {0})

abbrev pub accepts : List ℕ → ℕ → Reading
accepts s i = record { bytes = s; gives = got tt i }

abbrev pub refuses : List ℕ → Fault → ℕ → Reading
refuses s f i = record { bytes = s; gives = refused f i }

abbrev pub readings : List Reading
readings =
    -- Empty input is S1 at 0.
    refuses [] S1 0
    -- S1 the bytes end before a needed word is whole. The place is the offset of that word.
    ∷ refuses (4 ∷ 0 ∷ 0 ∷ []) S1 0
    ∷ refuses (bytes (4 ∷ 3 ∷ 2 ∷ 1 ∷ [])) S1 16
    ∷ refuses (bytes (4 ∷ 3 ∷ 2 ∷ 1 ∷ []) ++ 2 ∷ 0 ∷ 0 ∷ []) S1 16
    -- S2 a count outside its range: priorities 1..16, the first fault deciding
    ∷ refuses (bytes (0 ∷ [])) S2 0
    ∷ refuses (bytes (17 ∷ [])) S2 0
    -- least significant first: this is 4 + 2^24
    ∷ refuses (4 ∷ 0 ∷ 0 ∷ 1 ∷ []) S2 0
    -- tasks 1..32
    ∷ refuses (bytes (4 ∷ 0 ∷ [])) S2 4
    ∷ refuses (bytes (4 ∷ 33 ∷ [])) S2 4
    -- S3 an entry outside its range: starting priority 1..P; 1 if started, else 0
    ∷ refuses (bytes (4 ∷ 1 ∷ 0 ∷ 1 ∷ [])) S3 8
    ∷ refuses (bytes (4 ∷ 1 ∷ 5 ∷ 1 ∷ [])) S3 8
    ∷ refuses (bytes (4 ∷ 1 ∷ 4 ∷ 2 ∷ [])) S3 12
    -- semaphores 0..16, count 0..65535
    ∷ refuses (bytes (4 ∷ 1 ∷ 4 ∷ 1 ∷ 17 ∷ [])) S2 16
    ∷ refuses (bytes (4 ∷ 1 ∷ 4 ∷ 1 ∷ 1 ∷ 65536 ∷ [])) S3 20
    -- flags 0..16, mailboxes 0..16, messages 0..256
    ∷ refuses (bytes (4 ∷ 1 ∷ 4 ∷ 1 ∷ 0 ∷ 17 ∷ [])) S2 20
    ∷ refuses (bytes (4 ∷ 1 ∷ 4 ∷ 1 ∷ 0 ∷ 0 ∷ 17 ∷ [])) S2 24
    ∷ refuses (bytes (4 ∷ 1 ∷ 4 ∷ 1 ∷ 0 ∷ 0 ∷ 0 ∷ 257 ∷ [])) S2 28
    -- pools 0..8, blocks 1..32
    ∷ refuses (bytes (4 ∷ 1 ∷ 4 ∷ 1 ∷ 0 ∷ 0 ∷ 0 ∷ 0 ∷ 9 ∷ [])) S2 32
    ∷ refuses (bytes (4 ∷ 1 ∷ 4 ∷ 1 ∷ 0 ∷ 0 ∷ 0 ∷ 0 ∷ 1 ∷ 0 ∷ [])) S3 36
    ∷ refuses (bytes (4 ∷ 1 ∷ 4 ∷ 1 ∷ 0 ∷ 0 ∷ 0 ∷ 0 ∷ 1 ∷ 33 ∷ [])) S3 36
    -- One to three bytes after section seven are a word that is not whole.
    ∷ refuses (bench_bytes ++ 0 ∷ []) S1 64
    ∷ refuses (bench_bytes ++ 0 ∷ 0 ∷ 0 ∷ []) S1 64
    -- counters 0 or 1; m 1 to 65535, then for each of eight alarms a task id of the setup and 0 to start or 1 to wake it
    ∷ refuses (bench_bytes ++ bytes (2 ∷ [])) S2 64
    ∷ refuses (bench_bytes ++ bytes (1 ∷ [])) S1 68
    ∷ refuses (bench_bytes ++ bytes (1 ∷ 0 ∷ replicate 16 1)) S3 68
    ∷ refuses (bench_bytes ++ bytes (1 ∷ 65536 ∷ replicate 16 1)) S3 68
    ∷ refuses (bench_bytes ++ bytes (1 ∷ 1 ∷ 0 ∷ replicate 15 1)) S3 72
    ∷ refuses (bench_bytes ++ bytes (1 ∷ 1 ∷ replicate 14 1 ++ 4 ∷ 1 ∷ [])) S3 128
    ∷ refuses (bench_bytes ++ bytes (1 ∷ 1 ∷ replicate 15 1 ++ 2 ∷ [])) S3 132
    ∷ refuses (bench_bytes ++ bytes (1 ∷ 1 ∷ replicate 15 1)) S1 132
    -- S4 bytes left over. The place is the offset of the first byte left over.
    ∷ refuses (bench_bytes ++ bytes (0 ∷ []) ++ 0 ∷ []) S4 68
    ∷ refuses (bench_bytes ++ bytes (0 ∷ 1 ∷ [])) S4 68
    ∷ refuses (bench_bytes ++ bytes (1 ∷ 1 ∷ replicate 17 1)) S4 136
    -- one without a fault is accepted: the bench sheet's; the shortest; one that ends after seven counts as none
    ∷ accepts bench_bytes 64
    ∷ accepts (bench_bytes ++ bytes (0 ∷ [])) 68
    ∷ accepts (bench_bytes ++ bytes (1 ∷ 65535 ∷ replicate 14 1 ++ 3 ∷ 0 ∷ [])) 136
    ∷ accepts (bytes (1 ∷ 1 ∷ 1 ∷ 0 ∷ 0 ∷ 0 ∷ 0 ∷ 0 ∷ 0 ∷ [])) 36
    -- The longest is 129 words, 516 bytes.
    ∷ accepts (bytes (16 ∷ 32 ∷ replicate 64 1 ++ 16 ∷ replicate 16 65535 ++ 16 ∷ replicate 16 (2 ^ 32 - 1) ++ 16 ∷ 256 ∷ 8 ∷ replicate 8 32 ++ 1 ∷ 65535 ∷ replicate 16 1)) 516
    ∷ []

unfoldable pub read : List Reading → List (Read (Unit {0}))
unfolding answers
read l = map (λ r. and_then (setup r.bytes) (λ u i. got tt i)) l
