-- The numbers of the rules that a constraint file may break.
use Rattle.std.proofs.Common.{◌≡◌, ℕ, Bool, true, List, [], ◌∷◌, Option, Some, None, Result, Ok, Err, refl, ap, subst, inl, inr, codes}
use Rattle.std.specs.Prelude.{IfErr, IfSome, option_map, option_and_then, map}
use Rattle.cdc_base.specs.declared.fault.Fault.{Fault}
use Rattle.cdc_base.specs.declared.fault.Stop.{Stop}
use Rattle.cdc_base.specs.declared.fault.Stop.TheVariants.{Refused, Memory}
use Rattle.cdc_base.specs.declared.signal.ResetPin.{ResetPin}
use Rattle.toml.specs.Data.{Data, Items, no_items, item, Members, get, get_member, as_str, as_table}
use Rattle.clock_constraints.specs.declared.ClockPin.{ClockPin}
use Rattle.clock_constraints.specs.declared.Constraints.{Constraints}
use Rattle.clock_constraints.specs.declared.InputPin.{InputPin}
use Rattle.clock_constraints.specs.declared.Waiver.{Waiver}
use Rattle.clock_constraints.specs.declared.file.Document.{Document}
use Rattle.clock_constraints.specs.declared.entry.InputEntry.{InputEntry}
use Rattle.clock_constraints.specs.Refusals.{Text, broken, ◌>>=◌, unless, required}
use Rattle.clock_constraints.specs.Values.{settle_or_one, settle_number, unknown_in, first_unknown, text, text_at, text_passing, passing, is_group, is_reason, level, level_of}
use Rattle.clock_constraints.specs.Entries.{clock_pin, input_entry, reset_pin, static_name, waiver, entries, entries_of, tables}
use Rattle.clock_constraints.specs.Names.{input_pin, input_pins, clock_place, repeated, first_again}
use Rattle.clock_constraints.specs.Files.{document, constraints, port_names, IsBroken, IsStopOf}
use Rattle.refusals.specs.Numbers.{is_listed, HasNumberIn}
use Rattle.described_design.specs.ConstraintFiles.{file_numbers}

abbrev pub Listed : ℕ → Type 0
Listed number = is_listed file_numbers number ≡ true

-- a value, or a refusal with one of the numbers
pub HasListed : {A : Type 0} → Result A Fault → Type 0
HasListed r = IfErr r (λ (f : Fault). Listed f.number)

pub value : {A : Type 0} (x : A) → HasListed (Ok x)
unfolding HasListed
value x = tt

pub refusal : (A : Type 0) (f : Fault) → Listed f.number → HasListed {A = A} (Err f)
unfolding HasListed
refusal A f h = h

pub bind : {A B : Type 0} (r : Result A Fault) (next : A → Result B Fault) → HasListed r → ((x : A) → HasListed (next x))
    → HasListed (r >>= next)
unfolding HasListed
bind (Ok x) next h k = k x
bind (Err f) next h k = h

pub where_none : {A : Type 0} (rule : Option Fault) (r : Result A Fault) → IfSome rule (λ f. Listed f.number) → HasListed r
    → HasListed (unless rule r)
where_none None r listed h = h
where_none (Some f) r listed h = refusal _ f listed

no_rule : {A : Type 0} (number : ℕ) (name : Option Text) (r : Result A Fault) → Listed number → HasListed r
    → HasListed (unless (option_map (broken number) name) r)
no_rule number None r listed h = h
no_rule number (Some name) r listed h = refusal _ (broken number name) listed

pub need : {A : Type 0} (number : ℕ) (name : Text) (o : Option A) → Listed number → HasListed (required number name o)
need number name None listed = refusal _ (broken number name) listed
need number name (Some x) listed = value x

unknown : {A : Type 0} (known : List Text) (ms : Option Members) (r : Result A Fault) → HasListed r
    → HasListed (unless (unknown_in known ms) r)
unknown known ms r h = no_rule 402 (option_and_then (first_unknown known) ms) r refl h

a_text : (key : Text) (d : Data) → HasListed (text key d)
a_text key d = need 402 key (text_at key d) refl

a_passing : (test : Text → Bool) (key : Text) (d : Data) → HasListed (text_passing test key d)
a_passing test key d = need 402 key (option_and_then (passing test) (text_at key d)) refl

a_level : (d : Data) → HasListed (level d)
a_level d = need 402 (codes "active") (option_and_then level_of (text_at (codes "active") d)) refl

settle : (o : Option Data) → HasListed (settle_or_one o)
settle None = value 1
settle (Some d) = need 402 (codes "settle") (settle_number d) refl

clock : (d : Data) → HasListed (clock_pin d)
clock d =
    unknown (codes "name" ∷ codes "group" ∷ codes "settle" ∷ []) (as_table d) _
    (bind (text (codes "name") d) _ (a_text (codes "name") d)
    (λ name. bind (text_passing is_group (codes "group") d) _ (a_passing is_group (codes "group") d)
    (λ group. bind (settle_or_one (get (codes "settle") d)) _ (settle (get (codes "settle") d))
    (λ number. value {A = ClockPin} (record { name = name; group = group; settle = number })))))

input : (d : Data) → HasListed (input_entry d)
input d =
    unknown (codes "name" ∷ codes "clock" ∷ []) (as_table d) _
    (bind (text (codes "name") d) _ (a_text (codes "name") d) (λ name. bind (text (codes "clock") d) _ (a_text (codes "clock") d)
    (λ pin. value {A = InputEntry} (record { name = name; clock = pin }))))

reset : (d : Data) → HasListed (reset_pin d)
reset d =
    unknown (codes "name" ∷ codes "active" ∷ []) (as_table d) _
    (bind (text (codes "name") d) _ (a_text (codes "name") d) (λ name. bind (level d) _ (a_level d)
    (λ high. value {A = ResetPin} (record { name = name; high = high }))))

static : (d : Data) → HasListed (static_name d)
static d = unknown (codes "name" ∷ []) (as_table d) _ (a_text (codes "name") d)

waive : (d : Data) → HasListed (waiver d)
waive d =
    unknown (codes "finding" ∷ codes "reason" ∷ []) (as_table d) _
    (bind (text (codes "finding") d) _ (a_text (codes "finding") d)
    (λ finding. bind (text_passing is_reason (codes "reason") d) _ (a_passing is_reason (codes "reason") d)
    (λ reason. value {A = Waiver} (record { finding = finding; reason = reason }))))

each : {A : Type 0} (one : Data → Result A Fault) → ((d : Data) → HasListed (one d)) → (ds : Items) → HasListed (entries one ds)
each one h no_items = value []
each one h (item d ds) = bind (one d) _ (h d) (λ x. bind (entries one ds) _ (each one h ds) (λ xs. value (x ∷ xs)))

array : {A : Type 0} (one : Data → Result A Fault) (key : Text) (o : Option Data) → ((d : Data) → HasListed (one d))
    → HasListed (entries_of one key o)
array one key None h = value []
array one key (Some d) h = bind (required 402 key (tables d)) (entries one) (need 402 key (tables d) refl) (each one h)

at_key : {A : Type 0} (one : Data → Result A Fault) (key : Text) (t : Members) → ((d : Data) → HasListed (one d))
    → HasListed (entries_of one key (get_member key t))
at_key one key t h = array one key (get_member key t) h

file : (t : Members) → HasListed (document t)
file t =
    let top_text = option_and_then as_str (get_member (codes "top") t) in
    unknown (codes "top" ∷ codes "clock" ∷ codes "input" ∷ codes "reset" ∷ codes "static" ∷ codes "waive" ∷ []) (Some t) _
    (bind (required 402 (codes "top") top_text) _ (need 402 (codes "top") top_text refl)
    (λ top. bind (entries_of clock_pin (codes "clock") (get_member (codes "clock") t)) _ (at_key clock_pin (codes "clock") t clock)
    (λ clocks. bind (entries_of input_entry (codes "input") (get_member (codes "input") t)) _ (at_key input_entry (codes "input") t input)
    (λ inputs. bind (entries_of reset_pin (codes "reset") (get_member (codes "reset") t)) _ (at_key reset_pin (codes "reset") t reset)
    (λ resets. bind (entries_of static_name (codes "static") (get_member (codes "static") t)) _ (at_key static_name (codes "static") t static)
    (λ statics. bind (entries_of waiver (codes "waive") (get_member (codes "waive") t)) _ (at_key waiver (codes "waive") t waive)
    (λ waivers. value {A = Document}
    (record { top = top; clocks = clocks; inputs = inputs; resets = resets; statics = statics; waivers = waivers }))))))))

pin : (clocks : List ClockPin) (e : InputEntry) → HasListed (input_pin clocks e)
pin clocks e =
    bind (required 409 e.clock (clock_place clocks e.clock)) _ (need 409 e.clock (clock_place clocks e.clock) refl)
    (λ at. value {A = InputPin} (record { name = e.name; clock = at }))

pins : (clocks : List ClockPin) (es : List InputEntry) → HasListed (input_pins clocks es)
pins clocks [] = value []
pins clocks (e ∷ es) =
    bind (input_pin clocks e) _ (pin clocks e) (λ x. bind (input_pins clocks es) _ (pins clocks es) (λ xs. value (x ∷ xs)))

whole : (t : Members) → HasListed (constraints t)
whole t =
    bind (document t) _ (file t)
    (λ d. bind (unless (repeated 404 (port_names d)) (input_pins d.clocks d.inputs)) _
    (no_rule 404 (first_again [] (port_names d)) (input_pins d.clocks d.inputs) refl (pins d.clocks d.inputs))
    (λ inputs. no_rule 410 (first_again [] (map (λ w. w.finding) d.waivers)) _ refl (value {A = Constraints}
    (record { top = d.top; clocks = d.clocks; inputs = inputs; resets = d.resets; statics = d.statics; waivers = d.waivers }))))

pub refused_number : (A : Type 0) (f : Fault) → HasListed {A = A} (Err f) → Listed f.number
unfolding HasListed
refused_number A f h = h

broken_rule : (bytes : List ℕ) (f : Fault) → IsBroken bytes f → Listed f.number
broken_rule bytes f (inl (is, none)) = ap (λ (x : Fault). is_listed file_numbers x.number) is
broken_rule bytes f (inr (t, is, fault)) = refused_number Constraints f (subst (λ (r : Result Constraints Fault). HasListed r) fault (whole t))

-- a constraint file without a meaning breaks one of its rules
pub constraint_stop : (bytes : List ℕ) (r : Result Constraints Stop) → IfErr r (IsStopOf bytes) → IfErr r (HasNumberIn file_numbers)
constraint_stop bytes (Ok c) h = tt
constraint_stop bytes (Err Memory) h = tt
constraint_stop bytes (Err (Refused f)) h = broken_rule bytes f h
