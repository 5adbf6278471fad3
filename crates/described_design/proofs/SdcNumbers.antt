-- The numbers of the rules that an SDC text may break.
use Rattle.std.proofs.Common.{◌==◌, ◌||◌, ℕ, Bool, true, false, List, [], ◌∷◌, ◌++◌, length, Option, Some, None, Result, Ok, Err, refl, subst, codes}
use Rattle.std.specs.Prelude.{IfErr, IfSome, option_and_then, unwrap_or, if◌then◌else◌}
use Rattle.std.specs.List.{list_any}
use Rattle.std.specs.Str.{bytes_eq}
use Rattle.cdc_base.specs.declared.fault.Fault.{Fault}
use Rattle.cdc_base.specs.declared.fault.Stop.{Stop}
use Rattle.cdc_base.specs.declared.fault.Stop.TheVariants.{Refused, Memory}
use Rattle.clock_constraints.specs.declared.Constraints.{Constraints}
use Rattle.clock_constraints.specs.Refusals.{Gives, Text, broken}
use Rattle.refusals.specs.Numbers.{HasNumberIn}
use Rattle.sdc_subset.specs.declared.command.Kind.{Kind}
use Rattle.sdc_subset.specs.declared.form.Command.{Command}
use Rattle.sdc_subset.specs.declared.form.Command.TheVariants as command
use Rattle.sdc_subset.specs.declared.pins.Meaning.{Meaning}
use Rattle.sdc_subset.specs.declared.pins.Meaning.TheVariants.{Clock, Input, Reset}
use Rattle.sdc_subset.specs.declared.pins.Pin.{Pin}
use Rattle.sdc_subset.specs.Commands.{are_ordinary, commands_of, head}
use Rattle.sdc_subset.specs.Forms.{kind_of}
use Rattle.sdc_subset.specs.Groups.{has_each_once, listed, wrong_groups}
use Rattle.sdc_subset.specs.Marks.{marks_of}
use Rattle.sdc_subset.specs.Words.{words_of}
use Rattle.sdc_subset.specs.Meanings.{made, meaning, of_commands, of_mentions, only_design, only_groups}
use Rattle.sdc_subset.specs.Pins.{add_pin, add_to, add_unless, clock_names, given_twice, meaning_of, mentions, or_else, pins_from, same_again, unknown_clock, unknown_to}
use Rattle.sdc_subset.specs.Readings.{all_of, behind_head, command_from, command_of, command_of_kind, readings}
use Rattle.described_design.specs.ConstraintFiles.{file_numbers}
use Rattle.described_design.proofs.ConstraintNumbers.{HasListed, Listed, bind, need, refusal, refused_number, value, where_none}

-- ---- commands

command_listed : (k : Option Kind) (chunks : List Text) → HasListed (command_of_kind k chunks)
command_listed None chunks = refusal _ (broken 412 (head chunks)) refl
command_listed (Some k) chunks = need 413 (head chunks) (option_and_then (command_from k) (option_and_then words_of (marks_of (behind_head chunks)))) refl

all_listed : (commands : List (List Text)) → HasListed (all_of commands)
all_listed [] = value []
all_listed (c ∷ cs) = bind (command_of c) _ (command_listed (kind_of (head c)) c)
    (λ first. bind (all_of cs) _ (all_listed cs) (λ rest. value (first ∷ rest)))

readings_listed : (commands : List (List Text)) → HasListed (readings commands)
readings_listed commands = by_bytes (are_ordinary commands)
  where
    by_bytes : (ordinary : Bool) → HasListed (if ordinary then all_of commands else Err (broken 413 []))
    by_bytes true = all_listed commands
    by_bytes false = refusal _ (broken 413 []) refl

-- ---- what commands say

design_listed : (found : Option Text) (cs : List Command) → HasListed (only_design found cs)
design_listed found [] = value found
design_listed None (command.Design name ∷ cs) = design_listed (Some name) cs
design_listed (Some top) (command.Design name ∷ cs) = refusal _ (broken 413 (codes "current_design")) refl
design_listed found (c ∷ cs) = design_listed found cs

groups_listed : (found : List (List Text)) (cs : List Command) → HasListed (only_groups found cs)
groups_listed found [] = value found
groups_listed [] (command.Groups lists ∷ cs) = groups_listed lists cs
groups_listed (l ∷ ls) (command.Groups lists ∷ cs) = refusal _ (broken 413 (codes "set_clock_groups")) refl
groups_listed found (c ∷ cs) = groups_listed found cs

a_rule : (holds : Bool) (number : ℕ) (name : Text) → Listed number → IfSome (if holds then None else Some (broken number name)) (λ f. Listed f.number)
a_rule true number name listed = tt
a_rule false number name listed = listed

no_rule : (breaks : Bool) (number : ℕ) (name : Text) → Listed number → IfSome (if breaks then Some (broken number name) else None) (λ f. Listed f.number)
no_rule true number name listed = listed
no_rule false number name listed = tt

-- ---- what mentions say of ports

clock_listed : (names : List Text) (m : Meaning) → IfSome (unknown_to names m) (λ f. Listed f.number)
clock_listed names (Input clock) = a_rule (list_any (bytes_eq clock) names) 409 clock refl
clock_listed names (Clock name) = tt
clock_listed names (Reset high) = tt

either_listed : (first other : Option Fault) → IfSome first (λ f. Listed f.number) → IfSome other (λ f. Listed f.number)
    → IfSome (or_else first other) (λ f. Listed f.number)
either_listed None other h k = k
either_listed (Some f) other h k = h

clocks_listed : (names : List Text) (ps : List Pin) → IfSome (unknown_clock names ps) (λ f. Listed f.number)
clocks_listed names [] = tt
clocks_listed names (p ∷ ps) =
    either_listed (unknown_to names p.meaning) (unknown_clock names ps) (clock_listed names p.meaning) (clocks_listed names ps)

twice_listed : (before : List Pin) (m : Meaning) → IfSome (given_twice before m) (λ f. Listed f.number)
twice_listed before (Clock name) = no_rule (list_any (bytes_eq name) (clock_names before)) 404 name refl
twice_listed before (Input clock) = tt
twice_listed before (Reset high) = tt

pin_listed : (before : List Pin) (p : Pin) (m : Option Meaning) → HasListed (add_to before p m)
pin_listed before p None = value (before ++ p ∷ [])
pin_listed before p (Some m) = by_meaning (same_again m p.meaning)
  where
    by_meaning : (same : Bool) → HasListed (if same then Ok before else Err (broken 404 p.port))
    by_meaning true = value before
    by_meaning false = refusal _ (broken 404 p.port) refl

unless_listed : (rule : Option Fault) (before : List Pin) (p : Pin) → IfSome rule (λ f. Listed f.number) → HasListed (add_unless rule before p)
unless_listed None before p h = pin_listed before p (meaning_of p.port before)
unless_listed (Some f) before p h = refusal _ f h

pins_listed : (before ps : List Pin) → HasListed (pins_from before ps)
pins_listed before [] = value before
pins_listed before (p ∷ ps) = bind (add_pin before p) _ (unless_listed (given_twice before p.meaning) before p (twice_listed before p.meaning))
    (λ more. pins_listed more ps)

mentions_listed : (top : Text) (lists : List (List Text)) (ps : List Pin) → HasListed (of_mentions top lists ps)
mentions_listed top lists ps =
    where_none (wrong_groups (clock_names ps) lists) _
    (a_rule (length lists == 0 || has_each_once (clock_names ps) (listed lists)) 413 (codes "set_clock_groups") refl)
    (where_none (unknown_clock (clock_names ps) ps) _ (clocks_listed (clock_names ps) ps)
    (bind (pins_from [] ps) _ (pins_listed [] ps) (λ pins. value (made top (clock_names ps) lists pins))))

commands_listed : (last : Text) (cs : List Command) → HasListed (of_commands last cs)
commands_listed last cs =
    bind (only_design None cs) _ (design_listed None cs)
    (λ design. bind (only_groups [] cs) _ (groups_listed [] cs)
    (λ lists. mentions_listed (unwrap_or design last) lists (mentions cs)))

meaning_listed : (text last : List ℕ) → HasListed (meaning text last)
meaning_listed text last = bind (readings (commands_of text)) _ (readings_listed (commands_of text)) (λ cs. commands_listed last cs)

-- an SDC text without a meaning breaks one of its rules
pub sdc_stop : (text last : List ℕ) (r : Result Constraints Stop) → Gives r (meaning text last) → IfErr r (HasNumberIn file_numbers)
sdc_stop text last (Ok c) h = tt
sdc_stop text last (Err Memory) h = tt
sdc_stop text last (Err (Refused f)) h = refused_number Constraints f (subst (λ (r : Result Constraints Fault). HasListed r) h (meaning_listed text last))
