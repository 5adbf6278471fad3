-- What is known of names on the paths so far, as the definition has it.
use Rattle.std.specs.Prelude.{cond, Option, Some, None, bytes_eq}
use Rattle.std.specs.Borrow.{Bor}
use Rattle.indexmap.specs.IndexMap.{get_by}
use Rattle.flat_unfolding.specs.Outcome.{Text}
use Rattle.flat_unfolding.specs.Delays.{Delays, none_yet, always, several, joined}
use Rattle.process_delays.specs.declared.paths.Ways.{Ways}
use Rattle.process_delays.specs.declared.paths.Ways.TheVariants as w
use Rattle.process_delays.specs.declared.paths.Paths.{Paths}

abbrev pub ways_of : Ways → Delays
ways_of w.Never = none_yet
ways_of (w.Always d) = always d.now
ways_of w.Several = several

abbrev pub kept : Option Ways → Delays
kept None = none_yet
kept (Some w) = ways_of w

abbrev pub under : Paths → Text → Delays
under p x = kept (get_by (λ (k : Bor Text). bytes_eq x k.now) p.by_name)

-- with one more way for a name
abbrev pub grown : Text → Delays → (Text → Delays) → Text → Delays
grown x w f y = cond (bytes_eq x y) (joined (f y) w) (f y)
