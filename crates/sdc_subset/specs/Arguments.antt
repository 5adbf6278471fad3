-- The options of a command, each with its value, and its other words.
use Rattle.std.specs.Prelude.{◌==◌, bytes_eq, List, [], ◌∷◌, Option, None, Some, option_map, if◌then◌else◌}
use Rattle.cdc_base.specs.Bytes.{front}
use Rattle.cdc_base.specs.Words.{is_in}
use Rattle.clock_constraints.specs.Refusals.{Text}
use Rattle.sdc_subset.specs.declared.words.Word.{Word}
use Rattle.sdc_subset.specs.declared.arguments.Argument.{Argument}
use Rattle.sdc_subset.specs.declared.arguments.Step.{Step}
use Rattle.sdc_subset.specs.declared.arguments.Step.TheVariants.{Adds, Waits, Unknown}
use Rattle.sdc_subset.specs.Words.{plain_of}

abbrev pub step_by : List Text → List Text → Word → Option Text → Step
step_by valued flags w None = Adds (record { option = []; value = w })
step_by valued flags w (Some t) =
    if is_in flags t then Adds (record { option = t; value = record { marks = [] } })
    else if is_in valued t then Waits t
    else if front t == 45 then Unknown
    else Adds (record { option = []; value = w })

-- what a word is, where an option in front of it waits for its value, or none does. A flag has no value, and a word that is
-- no option stands under the empty one; a plain word that begins with `-` and is no option is unknown
abbrev pub step_of : List Text → List Text → Option Text → Word → Step
step_of valued flags (Some o) w = Adds (record { option = o; value = w })
step_of valued flags None w = step_by valued flags w (plain_of w.marks)

-- the arguments from a word on, with those behind it
abbrev pub add_step : Step → Option (List Argument) → Option (List Argument)
add_step (Adds a) behind = option_map (λ rest. a ∷ rest) behind
add_step (Waits o) behind = behind
add_step Unknown behind = None

-- the option that waits for its value behind a word
abbrev pub waiting : Step → Option Text
waiting (Waits o) = Some o
waiting s = None

-- the arguments in their order
abbrev pub arguments_from : List Text → List Text → Option Text → List Word → Option (List Argument)
arguments_from valued flags before (w ∷ ws) =
    add_step (step_of valued flags before w) (arguments_from valued flags (waiting (step_of valued flags before w)) ws)
arguments_from valued flags None [] = Some []
arguments_from valued flags (Some o) [] = None

abbrev pub arguments_of : List Text → List Text → List Word → Option (List Argument)
arguments_of valued flags ws = arguments_from valued flags None ws

-- the values that an option has, in order
abbrev pub values : Text → List Argument → List Word
values option [] = []
values option (a ∷ rest) = if bytes_eq a.option option then a.value ∷ values option rest else values option rest
