-- The examples hold, by computation. Assumes nothing.
use mathlib.Core.List.{[], ◌∷◌, ◌++◌, map}
use mathlib.Core.Path.{◌≡◌, refl}
use Prim.Native.Nat.{ℕ}
use Rattle.rules.specs.Setup.{and_then, read_word, read_entry, read_entries, read_section, read_sections, read_with, read_setup}
use Rattle.rules_examples.specs.BenchSheet.{bench_bytes}
use Rattle.rules_examples.specs.Bytes.{bytes}
use Rattle.run_reading.specs.Recorded.{most_events, read_head}
use Rattle.run_reading.specs.Recorder.{begun, stopped, ended, on_end, eat, items, after, at_input_end, items_in, after_all}
use Rattle.run_text.specs.Ascii.{ascii}
use Rattle.run_text.specs.Text.{unstarted, lines_from, queues, text_of}
use Rattle.run_recorder.specs.Recording.{taken, S5, part_says}
use Rattle.run_playback.specs.Examples.{bench_run, examples}

pub examples_hold : map (λ e. text_of e.file) examples ≡ map (λ e. e.text) examples
unfolding text_of
examples_hold = refl

-- the request's three lines, byte by byte
pub byte_by_byte : let parts = map (λ (b : ℕ). b ∷ []) bench_run in
    lines_from queues unstarted (items_in begun parts ++ at_input_end (after_all begun parts)) ≡ ascii "start 1\n1 0 0 0 3 0\n2 1 0 0 1 0\n"
unfolding text_of eat items after at_input_end items_in after_all
byte_by_byte = refl

-- 1,000,000 events are accepted
pub most_accepted : on_end (read_head (bench_bytes ++ bytes (0 ∷ most_events ∷ []))) ≡ []
unfolding read_head and_then read_word read_entry read_entries read_section read_sections read_with read_setup
most_accepted = refl

-- a nonempty part after a refusal or after the end is S5; an empty one never is
pub part_after : (part_says stopped (0 ∷ []) 0 ≡ S5) × (part_says ended (0 ∷ []) 0 ≡ S5) × (part_says stopped [] 0 ≡ taken) × (part_says ended [] 0 ≡ taken)
unfolding items
part_after = (refl, refl, refl, refl)
