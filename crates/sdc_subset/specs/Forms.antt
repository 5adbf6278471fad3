-- The table of commands: the form of each, and what it says.
use Rattle.std.specs.Prelude.{◌==◌, ◌&&◌, nat_le, bytes_eq, codes, length, Bool, true, false, List, [], ◌∷◌, Option, None, Some, option_and_then, if◌then◌else◌}
use Rattle.cdc_base.specs.Words.{found_in}
use Rattle.clock_constraints.specs.Refusals.{Text}
use Rattle.sdc_subset.specs.declared.words.Word.{Word}
use Rattle.sdc_subset.specs.declared.arguments.Argument.{Argument}
use Rattle.sdc_subset.specs.declared.command.Kind.{Kind}
use Rattle.sdc_subset.specs.declared.command.Kind.TheVariants as kind
use Rattle.sdc_subset.specs.declared.form.Command.{Command}
use Rattle.sdc_subset.specs.declared.form.Command.TheVariants.{Design, Clock, Groups, Delay, Level}
use Rattle.sdc_subset.specs.Words.{plain_of, name_of, is_braces, names_of, is_number_or}
use Rattle.sdc_subset.specs.Arguments.{values}

infixl 10 ◌>>=◌
abbrev pub ◌>>=◌ : {A B : Type 0} → Option A → (A → Option B) → Option B
x >>= next = option_and_then next x

abbrev pub kinds : List (Text × Kind)
kinds =
    (codes "current_design", kind.Design) ∷ (codes "create_clock", kind.Clock) ∷ (codes "set_clock_groups", kind.Groups) ∷
    (codes "set_input_delay", kind.Delay) ∷ (codes "set_case_analysis", kind.Level) ∷ []

unfoldable pub kind_of : Text → Option Kind
kind_of word = found_in kinds word

-- the options that have a value
abbrev pub valued_options : Kind → List Text
valued_options kind.Clock = codes "-name" ∷ codes "-period" ∷ codes "-waveform" ∷ []
valued_options kind.Groups = codes "-name" ∷ codes "-group" ∷ []
valued_options kind.Delay = codes "-clock" ∷ []
valued_options k = []

abbrev pub flag_options : Kind → List Text
flag_options kind.Groups = codes "-asynchronous" ∷ []
flag_options kind.Delay = codes "-max" ∷ codes "-min" ∷ codes "-add_delay" ∷ []
flag_options k = []

-- exactly one, and exactly two
abbrev pub one : {A : Type 0} → List A → Option A
one (x ∷ []) = Some x
one xs = None

abbrev pub two : {A : Type 0} → List A → Option (A × A)
two (x ∷ y ∷ []) = Some (x, y)
two xs = None

abbrev pub not_empty : List Text → Option (List Text)
not_empty [] = None
not_empty (n ∷ ns) = Some (n ∷ ns)

-- a list with exactly one name
abbrev pub one_name : Text → Word → Option Text
one_name collection w = names_of collection w.marks >>= one

-- a list with one name or more
abbrev pub some_names : Text → Word → Option (List Text)
some_names collection w = names_of collection w.marks >>= not_empty

-- the name that an option gives, which may be left out
abbrev pub name_or : Text → List Word → Option Text
name_or other [] = Some other
name_or other (w ∷ []) = name_of w.marks
name_or other ws = None

-- an option that may be left out, with braces
abbrev pub may_be_braces : List Word → Bool
may_be_braces [] = true
may_be_braces (w ∷ []) = is_braces w.marks
may_be_braces ws = false

-- the lists of clocks
abbrev pub clock_lists : List Word → Option (List (List Text))
clock_lists [] = Some []
clock_lists (w ∷ ws) = do
  names ← some_names (codes "get_clocks") w
  rest ← clock_lists ws
  Some (names ∷ rest)

-- whether a reset with this inactive level is active high
abbrev pub high_of : Option Text → Option Bool
high_of None = None
high_of (Some t) = if bytes_eq t (codes "0") then Some true else if bytes_eq t (codes "1") then Some false else None

abbrev pub design_form : List Argument → Option Command
design_form given = do
  word ← one (values [] given)
  name ← name_of word.marks
  Some (Design name)

abbrev pub clock_form : List Argument → Option Command
clock_form given = do
  period ← one (values (codes "-period") given)
  word ← one (values [] given)
  port ← one_name (codes "get_ports") word
  name ← name_or port (values (codes "-name") given)
  if is_number_or (plain_of period.marks) && may_be_braces (values (codes "-waveform") given) then Some (Clock port name) else None

abbrev pub groups_form : List Argument → Option Command
groups_form given = do
  name ← name_or [] (values (codes "-name") given)
  lists ← clock_lists (values (codes "-group") given)
  if length (values (codes "-asynchronous") given) == 1 && nat_le 2 (length lists) && length (values [] given) == 0
      then Some (Groups lists) else None

abbrev pub delay_form : List Argument → Option Command
delay_form given = do
  list ← one (values (codes "-clock") given)
  clock ← one_name (codes "get_clocks") list
  words ← two (values [] given)
  ports ← some_names (codes "get_ports") words.1
  if is_number_or (plain_of words.0.marks) && nat_le (length (values (codes "-max") given)) 1
      && nat_le (length (values (codes "-min") given)) 1 && nat_le (length (values (codes "-add_delay") given)) 1
      then Some (Delay clock ports) else None

abbrev pub level_form : List Argument → Option Command
level_form given = do
  words ← two (values [] given)
  high ← high_of (plain_of words.0.marks)
  ports ← some_names (codes "get_ports") words.1
  Some (Level high ports)

abbrev pub form : Kind → List Argument → Option Command
form kind.Design given = design_form given
form kind.Clock given = clock_form given
form kind.Groups given = groups_form given
form kind.Delay given = delay_form given
form kind.Level given = level_form given
