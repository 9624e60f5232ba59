-- What serves an event on a memory of which it is known that it is sound and who runs, or what is broken.
use Rattle.std.specs.Prelude.{false, ◌≡◌, ℕ, ℤ, Result, Ok, Err}
use Rattle.rules.specs.Codes.{number, H-CALL}
use Rattle.rules.specs.Events.{Event, call, above}
use Rattle.rules.specs.View.{running}
use Rattle.memory_picture.specs.Picture.{Memory, view_in, SoundIn}
use Rattle.check_damage.specs.declared.Breach.{Breach}
use Rattle.call_words.specs.declared.Outcome.{Outcome}
use Rattle.kernel_steps.specs.Steps.{Reply, reply, unsound, Step}

-- what an event answered, and who runs after it
abbrev pub replied : Outcome → ℕ → Reply
replied o n = reply o.code o.w1 o.w2 n o.released

-- what is known of a memory before an event: that it is sound and who runs, or that it is not and what is broken
abbrev pub Known : Result ℕ Breach → Memory → Type 0
Known (Ok me) m = SoundIn m × (me ≡ running (view_in m))
Known (Err f) m = (SoundIn m → ⊥) × (reply f.code f.id 0 0 0 ≡ unsound m)

-- a step, for who knows this
abbrev pub Serves : Event → Result ℕ Breach → Memory → Reply → Memory → Type 0
Serves e k old r new = Known k old → Step e old r new

-- a call from a context that is one, for who knows that the state is sound and who runs
abbrev pub ServesCall : ℤ → ℤ → ℤ → ℤ → ℤ → ℕ → Memory → Reply → Memory → Type 0
ServesCall x n a c d me old r new = above x 1 ≡ false → SoundIn old → me ≡ running (view_in old) → Step (call x n a c d) old r new

-- what a call from no context answers: H_CALL, or what is broken
abbrev pub Misnames : Result ℕ Breach → Reply → Type 0
Misnames (Ok me) r = r ≡ reply (number H-CALL) 0 0 me 0
Misnames (Err f) r = r ≡ reply f.code f.id 0 0 0
