-- Worked examples of damaged counters and alarms, and of sound ones near them.
use Rattle.std.specs.Prelude.{Bool, true, false, List, [], ◌∷◌, ◌++◌, map, ℕ, replicate}
use Rattle.rules.specs.Codes.{OK, E-RLWAI, minus, Code, E-NOEXS, E-DMT, H-NODMT, E-QOVR, E-TMOUT}
use Rattle.rules.specs.State.{Setting, unset, due, Alarm}
use Rattle.rules.specs.Acts.{with_counter}
use Rattle.rules.specs.View.{View}
use Rattle.rules_examples_damage.specs.Damages.{with_body, with_ready, Damage, told}

-- an alarm of task i, which it starts or wakes, with a kept code and a setting
abbrev an_alarm : ℕ → Bool → Code → Setting → Alarm
an_alarm i w c s = record { task = i; wakes = w; kept = c; setting = s }

-- n idle ones
abbrev idles : ℕ → List Alarm
idles n = replicate n (an_alarm 1 false OK unset)

-- put by hand into the fresh state of the examples' setup, which has five tasks and no counter
abbrev with_count : ℕ → ℕ → List Alarm → View → View
with_count m n l = with_body (with_counter (record { size = m; now = n; alarms = l }))

-- m = 5, at 2, the last alarm as told
abbrev with_last : Alarm → View → View
with_last x = with_count 5 2 (idles 7 ++ (x ∷ []))

-- A number out of range is -20 with w1 0.
abbrev pub alarm_damages : List Damage
alarm_damages =
    map (told (minus 20) 0)
    -- expiry 0..m - 1, period 0..m
    (with_last (an_alarm 1 false OK (due 5 0))
    ∷ with_last (an_alarm 1 false OK (due 0 6))
    -- kept code 0, E_NOEXS, or H_NODMT for a start, E_DMT or E_QOVR for a wake
    ∷ with_last (an_alarm 1 false E-DMT unset)
    ∷ with_last (an_alarm 1 false E-QOVR unset)
    ∷ with_last (an_alarm 1 false E-TMOUT unset)
    ∷ with_last (an_alarm 1 true H-NODMT (due 0 0))
    ∷ with_last (an_alarm 1 true E-RLWAI unset)
    -- a task id of the setup
    ∷ with_last (an_alarm 0 false OK unset)
    ∷ with_last (an_alarm 6 false OK unset)
    -- the counter goes to m - 1; m 1 to 65535, with eight alarms; without a counter it stays at 0 and has none
    ∷ with_count 5 5 (idles 8)
    ∷ with_count 65536 2 (idles 8)
    ∷ with_count 5 2 (idles 7)
    ∷ with_count 5 2 (idles 9)
    ∷ with_count 0 1 []
    ∷ with_count 0 0 (idles 8)
    -- before every other rule
    ∷ (λ v. with_ready 2 (1 ∷ 2 ∷ 5 ∷ 1 ∷ []) (with_last (an_alarm 1 false OK (due 5 0)) v))
    ∷ [])

-- Each of these is as near to one of them, and sound.
abbrev pub alarm_repairs : List (View → View)
alarm_repairs =
    with_last (an_alarm 1 false OK (due 4 0))
    ∷ with_last (an_alarm 1 false OK (due 0 5))
    ∷ with_last (an_alarm 1 false E-NOEXS unset)
    ∷ with_last (an_alarm 1 false H-NODMT (due 4 5))
    ∷ with_last (an_alarm 1 true E-NOEXS unset)
    ∷ with_last (an_alarm 1 true E-DMT (due 2 0))
    ∷ with_last (an_alarm 1 true E-QOVR unset)
    ∷ with_last (an_alarm 5 true OK unset)
    ∷ with_count 5 4 (idles 8)
    ∷ with_count 65535 65534 (idles 8)
    ∷ with_count 1 0 (idles 8)
    ∷ []
