-- Handler entry and handler return. A handler call, entry or return never switches tasks while a handler stays open (View.antt, `running`).
use Rattle.std.specs.Prelude.{not, [], ◌∷◌, ℕ, zero, suc, leb}
use Rattle.rules.specs.Codes.{H-NEST, E-CTX}
use Rattle.rules.specs.State.{Handlers, no_handler, in_handler, depth, is_open}
use Rattle.rules.specs.Acts.{nest}
use Rattle.rules.specs.View.{View, head}
use Rattle.rules.specs.Verdicts.{Verdict, done, check}

-- one more is open; the outermost one interrupts task r
abbrev pub inner : Handlers → ℕ → Handlers
inner no_handler r = in_handler 0 r
inner (in_handler n i) r = in_handler (suc n) i

-- one less is open
abbrev pub outer : Handlers → Handlers
outer no_handler = no_handler
outer (in_handler zero i) = no_handler
outer (in_handler (suc n) i) = in_handler n i

-- Entry: code 0 and no words; at depth 15 it is H_NEST.
unfoldable pub entered : View → Verdict
entered v = check (leb 15 (depth v.body.handlers)) H-NEST (done (nest (inner v.body.handlers (head v)) ∷ []))

-- Return: code 0 and no words; at depth 0 it is E_CTX.
unfoldable pub exited : View → Verdict
exited v = check (not (is_open v.body.handlers)) E-CTX (done (nest (outer v.body.handlers) ∷ []))
