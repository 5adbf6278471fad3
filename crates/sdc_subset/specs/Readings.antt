-- The commands of a text by the table, or the first that breaks a rule.
use Rattle.std.specs.Prelude.{List, [], ◌∷◌, Option, None, Some, Result, Ok, Err, option_and_then, if◌then◌else◌}
use Rattle.cdc_base.specs.declared.fault.Fault.{Fault}
use Rattle.clock_constraints.specs.Refusals.{Text, broken, ◌>>=◌, required}
use Rattle.sdc_subset.specs.declared.words.Word.{Word}
use Rattle.sdc_subset.specs.declared.command.Kind.{Kind}
use Rattle.sdc_subset.specs.declared.form.Command.{Command}
use Rattle.sdc_subset.specs.Commands.{head, are_ordinary}
use Rattle.sdc_subset.specs.Marks.{marks_of}
use Rattle.sdc_subset.specs.Words.{words_of}
use Rattle.sdc_subset.specs.Arguments.{arguments_of}
use Rattle.sdc_subset.specs.Forms.{kind_of, valued_options, flag_options, form}

-- the chunks behind the first word
abbrev pub behind_head : List Text → List Text
behind_head [] = []
behind_head (c ∷ cs) = cs

-- what the words of a command of this kind say
abbrev pub command_from : Kind → List Word → Option Command
command_from k ws = option_and_then (form k) (arguments_of (valued_options k) (flag_options k) ws)

-- a command that isn't in the table is left out; one without the table's form is refused
abbrev pub command_of_kind : Option Kind → List Text → Result Command Fault
command_of_kind None chunks = Err (broken 412 (head chunks))
command_of_kind (Some k) chunks =
    required 413 (head chunks) (option_and_then (command_from k) (option_and_then words_of (marks_of (behind_head chunks))))

abbrev pub command_of : List Text → Result Command Fault
command_of chunks = command_of_kind (kind_of (head chunks)) chunks

-- all commands, in order
abbrev pub all_of : List (List Text) → Result (List Command) Fault
all_of [] = Ok []
all_of (c ∷ cs) = do
  first ← command_of c
  rest ← all_of cs
  Ok (first ∷ rest)

-- the commands, where no byte is refused
abbrev pub readings : List (List Text) → Result (List Command) Fault
readings commands = if are_ordinary commands then all_of commands else Err (broken 413 [])
