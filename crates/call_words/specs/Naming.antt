-- What a call's own rule may take for granted, since the words and the context have been judged.
use Rattle.std.specs.Prelude.{◌≡◌, ℕ, ◌≤◌, length}
use Rattle.rules.specs.Ids.{In}
use Rattle.rules.specs.State.{Kind, objects}
use Rattle.rules.specs.View.{View, running}

-- there is such a task
abbrev pub NamesTask : ℕ → View → Type 0
NamesTask i v = In i (length v.body.tasks)

-- there is such an object of that kind
abbrev pub NamesObject : Kind → ℕ → View → Type 0
NamesObject k o v = In o (objects v.body.store k)

-- there is such a message
abbrev pub NamesMessage : ℕ → View → Type 0
NamesMessage j v = In j (length v.body.store.messages)

-- there is such an alarm
abbrev pub NamesAlarm : ℕ → View → Type 0
NamesAlarm k v = In k (length v.body.counter.alarms)

-- 0, or a priority
abbrev pub NamesQueue : ℕ → View → Type 0
NamesQueue p v = p ≤ v.body.store.priorities

-- a task has made the call
abbrev pub HasCaller : ℕ → View → Type 0
HasCaller me v = me ≡ 0 → ⊥

-- that task runs
abbrev pub Runs : ℕ → View → Type 0
Runs me v = me ≡ running v
