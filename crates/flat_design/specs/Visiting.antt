-- Instances and the visit of modules: what the tables and the stack of open modules show of the definition's.
use Rattle.std.specs.Prelude.{◌||◌, unwrap_or, slice_set, find, ◌≡◌, ℕ, ◌+◌, ◌-◌, ◌<◌, ◌≤◌, ◌^◌, ◌==◌, Bool, true, false, cond, ◌&&◌, not, List, [], ◌∷◌, ◌++◌, length, map, filter, filter_map, flat_map, drop, All, Option, Some, None, is_some, option_map, option_and_then, slice_get, bytes_eq, codes, Result, Ok, Err}
use Rattle.std.specs.declared.hash.BuildHasherDefault.{BuildHasherDefault}
use Rattle.std.specs.declared.hash.FoldHasher.{FoldHasher}
use Rattle.std.specs.List.{AllZip, list_any}
use Rattle.std.specs.Cmp.Lexicographic.{pointwise}
use Rattle.indexmap.specs.IndexMap.{IndexMap, get_by}
use Rattle.cdc_base.specs.declared.signal.ResetPin.{ResetPin}
use Rattle.cdc_base.specs.declared.signal.Signal.{Signal}
use Rattle.cdc_base.specs.declared.signal.SigKind.TheVariants.{Input}
use Rattle.cdc_base.specs.declared.fault.Place.{Place}
use Rattle.cdc_base.specs.declared.fault.Stop.{Stop}
use Rattle.cdc_base.specs.declared.fault.Stop.TheVariants.{Refused, Memory}
use Rattle.cdc_base.specs.Words.{is_in}
use Rattle.verilog_ast.specs.declared.DeclKind.{DeclKind}
use Rattle.verilog_ast.specs.declared.DeclKind.TheVariants as k
use Rattle.verilog_ast.specs.declared.Module.{Module}
use Rattle.verilog_ast.specs.declared.Item.{Item}
use Rattle.verilog_ast.specs.declared.ItemBody.{ItemBody}
use Rattle.verilog_ast.specs.declared.ItemBody.TheVariants as body
use Rattle.verilog_reading.specs.ExprTree.{ExprTree}
use Rattle.verilog_reading.specs.SourceTree.{DeclTree, ConnsTree, BodyTree, decl, instance, ItemTree, ModuleTree, conns_of, item_of, module_of}
use Rattle.flat_form.specs.View.{expr_of, target_of}
use Rattle.flat_form.specs.Sizes.{is_word, kept_of}
use Rattle.flat_unfolding.specs.Outcome.{Text, Broken, Outcome, good, bad, then_, each, refused_if, by_number, judged}
use Rattle.flat_unfolding.specs.Names as n
use Rattle.flat_unfolding.specs.Names.{Names, Direction, inner, inward, outward, width_of, width_at, is_declared, meaning_in, Look, printed_part}
use Rattle.flat_unfolding.specs.Expressions.{as_constant, read}
use Rattle.flat_unfolding.specs.Declarations.{header_of, declarations}
use Rattle.flat_unfolding.specs.Parameters.{Overrides, overridable, parameters}
use Rattle.flat_unfolding.specs.Instances as of
use Rattle.flat_unfolding.specs.Instances.{Joint, joints, override, override_rules, connection_rules, port_direction, Link, into, out_of, linked, into_port, out_of_port, leaning_joint, takes_input, is_short}
use Rattle.flat_unfolding.specs.Design.{Design, Stage, look_of}
use Rattle.flat_unfolding.specs.Unfolding.{with_resets, instance_item, modules_differ, module_named}
use Rattle.flat_unfolding.specs.Unfolding as law
use Rattle.flat_unfolding.specs.Widths.{keeps_sizes, target_keeps_sizes}
use Rattle.flat_names.specs.declared.design.Entry as kept
use Rattle.flat_names.specs.declared.design.Reset.{Reset}
use Rattle.flat_names.specs.declared.design.Design as table
use Rattle.flat_names.specs.declared.scope.Meaning.{Meaning}
use Rattle.flat_names.specs.declared.scope.Meaning.TheVariants as scope
use Rattle.flat_names.specs.declared.resolved.Resolved.{Resolved}
use Rattle.flat_names.specs.Looks.{param_of, IsFitParam, IsFit}
use Rattle.flat_names.specs.Designs.{ShowsNames, ShowsDesign, ShowsStage, IsReset, reset_of}
use Rattle.flat_declarations.specs.declared.parameter.Override.{Override}
use Rattle.flat_design.specs.Chosen.{chosen_item, chosen_visit}
use Rattle.flat_design.specs.declared.instance.Connection.{Connection}
use Rattle.flat_design.specs.declared.instance.Leaning.{Leaning}
use Rattle.flat_design.specs.declared.instance.Overridden.{Overridden}
use Rattle.flat_design.specs.declared.instance.Connected.{Connected}
use Rattle.flat_design.specs.declared.instance.Given.{Given}
use Rattle.flat_design.specs.declared.instance.End.{End}
use Rattle.flat_design.specs.declared.instance.End.TheVariants as ends
use Rattle.flat_design.specs.declared.visit.Library.{Library}
use Rattle.flat_design.specs.declared.visit.Open.{Open}
use Rattle.flat_design.specs.declared.visit.Visit.{Visit}
use Rattle.flat_design.specs.declared.visit.Instance.{Instance}
use Rattle.flat_declarations.specs.Declaring.{ShowsOverrides}

-- ---- ports

-- what a table has for the name of a port: whether it is an input, where it has a direction
abbrev pub port_in : {S : Type 0} → IndexMap Text (Option Bool) S → Text → Option (Option Bool)
port_in ports x = get_by (pointwise ◌==◌ x) ports

-- ports as the code has them
abbrev pub PortTable : Type 0
PortTable = IndexMap Text (Option Bool) (BuildHasherDefault FoldHasher)

abbrev pub side_of : Option Direction → Option Bool
side_of None = None
side_of (Some inward) = Some true
side_of (Some d) = Some false

abbrev pub side_of_kind : DeclKind → Option Bool
side_of_kind k.Input = Some true
side_of_kind k.Output = Some false
side_of_kind k.OutputReg = Some false
side_of_kind k.Wire = None
side_of_kind k.Reg = None

-- a port of the header that has no direction yet
abbrev pub awaits : Option (Option Bool) → Bool
awaits (Some None) = true
awaits o = false

-- the port of that name once these declarations are read
abbrev pub sides_with : List DeclTree → Text → Option (Option Bool) → Option (Option Bool)
sides_with [] x o = o
sides_with (d ∷ ds) x o = sides_with ds x (cond (awaits o && (is_some (side_of_kind d.kind) && bytes_eq d.name x)) (Some (side_of_kind d.kind)) o)

pub record ShowsPorts {S : Type 0} (ports : IndexMap Text (Option Bool) S) (m : ModuleTree) : Type 0 where
  pub kept : (x : Text) → port_in ports x ≡ cond (is_in (header_of m) x) (Some (side_of (port_direction m x))) None

-- the name of the port at a place
abbrev pub name_at : {S : Type 0} → IndexMap Text (Option Bool) S → ℕ → Option Text
name_at ports place = option_map (λ (p : Text × Option Bool). p.0) (slice_get ports.entries place)

-- ---- what instances give

abbrev pub leaning_in : Leaning → of.Leaning
leaning_in g = record { name = g.name; bits = g.bits }

-- what leans of a value that is given to a name, and the override that the value makes
abbrev pub leaning_if : Resolved → Text → List of.Leaning
leaning_if r x = cond r.signs.leans (record { name = x; bits = (kept_of r.expr).width } ∷ []) []

abbrev pub override_by : Resolved → Override
override_by r = record { value = r.expr; is_counted = is_some r.count; is_signed = r.signs.is_signed }

-- an expression that is given to a name, if there is one
abbrev pub joint_if : Option Text → Option ExprTree → List Joint
joint_if x None = []
joint_if x (Some v) = record { name = x; value = v } ∷ []

module _ (l : Look) where
  abbrev pub constants_of : List Joint → List Broken
  constants_of js = flat_map (λ (j : Joint). (as_constant (read l j.value)).broken) js

  -- a table with these overrides, and what leans of them
  abbrev pub GivesOverrides : List Joint → Overridden → Type 0
  GivesOverrides js o = ShowsOverrides o.overrides (filter_map (override l) js) × (map leaning_in o.leaning.items ≡ filter_map (leaning_joint l) js)

  abbrev pub AreOverridden : List Joint → Overridden → Type 0
  AreOverridden js o = constants_of js ≡ [] → GivesOverrides js o

  abbrev pub read_of : ModuleTree → List Joint → List Broken
  read_of m js = flat_map (λ (j : Joint). (linked l m j).broken) js

-- which resets signals resolve to
abbrev pub ShowsResets : List ResetPin → List kept.Entry → List n.Entry → Type 0
ShowsResets pins entries es = (s : ℕ) → IsReset pins (reset_of entries s) (n.reset_at es s)

-- the place of a port's name, or none
abbrev pub IsPlace : {S : Type 0} → IndexMap Text (Option Bool) S → Option ℕ → Option Text → Type 0
IsPlace ports None None = Unit {0}
IsPlace ports (Some place) (Some x) = name_at ports place ≡ Some x
IsPlace ports place x = ⊥

-- whether a name is that of an input, where it is a port with a direction
abbrev pub side_named : ModuleTree → Option Text → Option Bool
side_named m None = None
side_named m (Some x) = side_of (port_direction m x)

abbrev pub placed : Option ℕ → Option Bool → Option (ℕ × Bool)
placed (Some place) (Some side) = Some (place, side)
placed place side = None

abbrev pub IsEnd : List ResetPin → End → Link → Type 0
IsEnd pins (ends.Input value reset) (into x v r) = (expr_of value ≡ v) × (keeps_sizes value ≡ true) × IsReset pins reset r
IsEnd pins (ends.Output target) (out_of x t) = (target_of target ≡ t) × (target_keeps_sizes target ≡ true)
IsEnd pins end link = ⊥

abbrev pub port_of : Link → Text
port_of (into x v r) = x
port_of (out_of x t) = x

abbrev pub IsLinkOf : {S : Type 0} → List ResetPin → IndexMap Text (Option Bool) S → Connection → Link → Type 0
IsLinkOf pins ports c link = (name_at ports c.port ≡ Some (port_of link)) × IsEnd pins c.end link

-- the connections, and what leans of them
abbrev pub GivesLinks : {S : Type 0} → List ResetPin → Look → ModuleTree → IndexMap Text (Option Bool) S → List Joint → Connected → Type 0
GivesLinks pins l m ports js c =
    AllZip (IsLinkOf pins ports) c.connections.items (filter_map (λ (j : Joint). (linked l m j).link) js) × (map leaning_in c.leaning.items ≡ filter_map (leaning_joint l) (filter (takes_input m) js))

abbrev pub AreLinked : {S : Type 0} → List ResetPin → Look → ModuleTree → IndexMap Text (Option Bool) S → List Joint → Connected → Type 0
AreLinked pins l m ports js c = read_of l m js ≡ [] → GivesLinks pins l m ports js c

-- the signal that a name stands for
abbrev pub if_signal : Option n.Meaning → Option ℕ
if_signal (Some (n.a_signal s)) = Some s
if_signal m = None

abbrev pub connect_at : Design → ℕ → Link → Design
connect_at d s (into x v r) = into_port d v r (Some (n.a_signal s))
connect_at d s (out_of x t) = out_of_port d t (Some (n.a_signal s))

-- names stand for what the design has
pub record AreFitNames (names : Names) (count : ℕ) : Type 0 where
  pub params : (x : Text) (p : n.Param) → meaning_in names x ≡ Some (n.a_param p) → IsFitParam p
  pub signals : (x : Text) (s : ℕ) → meaning_in names x ≡ Some (n.a_signal s) → s < count
  pub memories : (x : Text) (a : n.Memory) → meaning_in names x ≡ Some (n.a_memory a) → (1 ≤ a.words) × (a.first + a.words ≤ count)

abbrev pub IsFitMeaning : ℕ → Meaning → Type 0
IsFitMeaning count (scope.Param p) = IsFitParam (param_of p)
IsFitMeaning count (scope.Signal s) = s < count
IsFitMeaning count v = Unit {0}

pub record IsFitDesign (d : Design) : Type 0 where
  pub entries : (s : ℕ) (a : n.Entry) → slice_get d.entries s ≡ Some a → is_word (width_of a.range) ≡ true
  pub few : length d.entries ≤ 2 ^ 32

-- ---- modules by name

abbrev pub IsNumber : List Module → Text → Option ℕ → Type 0
IsNumber modules x None = module_named x (map module_of modules) ≡ None
IsNumber modules x (Some number) = (m : Module) × (slice_get modules number ≡ Some m) × (m.name ≡ x) × (module_named x (map module_of modules) ≡ Some (module_of m))

-- a table has the number of each module, and no two modules have one name
pub record IsLibrary {S : Type 0} (modules : List Module) (by_name : IndexMap Text ℕ S) : Type 0 where
  pub numbers : (x : Text) → IsNumber modules x (get_by (pointwise ◌==◌ x) by_name)
  pub distinct : (i j : ℕ) (m q : Module) → slice_get modules i ≡ Some m → slice_get modules j ≡ Some q → m.name ≡ q.name → i ≡ j

-- the modules by name, or the refusal of the first that has the name of one before it
abbrev pub Lists : List Module → Result Library Stop → Type 0
Lists modules (Ok library) = (modules_differ (map module_of modules) ≡ good tt) × (library.modules.now ≡ modules) × IsLibrary modules library.by_name
Lists modules (Err (Refused f)) = modules_differ (map module_of modules) ≡ bad f
Lists modules (Err Memory) = Unit {0}

-- ---- the stack of modules that are being visited, the innermost first

-- a module that is being visited: its names, the items that are left of it, the printed names of the instances from the top to it, the bound on the
-- depth of visits of its instances, and what was given to it that leans, with the place of its instance
pub record Frame : Type 0 where
  pub tree : ModuleTree
  pub names : Names
  pub items : List ItemTree
  pub prefix : Text
  pub depth : ℕ
  pub given : List of.Leaning
  pub place : Option Place

abbrev pub visited : List Frame → List Text
visited frames = map (λ (f : Frame). f.tree.name) frames

-- E306: what was given to a module is too short for it
abbrev pub closed : Frame → Stage → Outcome (Unit {0})
closed f s = refused_if (list_any (is_short s) f.given) 306 f.place f.tree.name

-- a module ends so, or with that refusal
abbrev pub IsClosed : Outcome (Unit {0}) → Result (Unit {0}) Stop → Type 0
IsClosed o (Ok u) = o ≡ good tt
IsClosed o (Err (Refused e)) = o ≡ bad e
IsClosed o (Err Memory) = Unit {0}

module _ (wires_only : Bool) (modules : List ModuleTree) where
  -- what is still to come: the innermost module's items, then the module around it goes on with the design and its own names
  abbrev pub rest_of : List Frame → Design → Outcome Design
  rest_of [] d = good d
  rest_of (f ∷ fs) d = then_ (each (chosen_item wires_only modules (visited (f ∷ fs)) f.prefix (chosen_visit wires_only modules f.depth)) (record { names = f.names; design = d }) f.items) (λ s. then_ (closed f s) (λ u. rest_of fs s.design))

abbrev pub named_part : ItemBody → Text
named_part (body.Instance child params x ports) = printed_part x ++ codes "."
named_part b = []

-- the item that was begun last, and the printed name of its instance
abbrev pub item_before : List Module → Open → Option Item
item_before modules o = option_and_then (λ (m : Module). slice_get m.items (o.next - 1)) (slice_get modules o.module)

abbrev pub part_in : Option Item → Text
part_in None = []
part_in (Some i) = named_part i.body

abbrev pub part_of : List Module → Open → Text
part_of modules o = part_in (item_before modules o)

abbrev pub prefix_of : List Module → List Open → Text
prefix_of modules opens = flat_map (part_of modules) opens

pub record IsFrame (modules : List Module) (o : Open) (f : Frame) : Type 0 where
  pub tree : Module
  pub found : slice_get modules o.module ≡ Some tree
  pub is : f.tree ≡ module_of tree
  pub items : f.items ≡ map item_of (drop o.next tree.items)
  pub names : ShowsNames o.names f.names
  pub given : map leaning_in o.given.params.items ++ map leaning_in o.given.ports.items ≡ f.given
  pub place : o.given.place ≡ f.place

abbrev pub AreFrames : List Module → List Open → List Frame → Type 0
AreFrames modules opens [] = opens ≡ []
AreFrames modules opens (f ∷ fs) = (outer : List Open) × (o : Open) × (opens ≡ outer ++ o ∷ []) × IsFrame modules o f × (f.prefix ≡ prefix_of modules outer) × AreFrames modules outer fs

-- the bound on the depth isn't met while different modules are visited
abbrev pub AreBounded : ℕ → List Frame → Type 0
AreBounded count [] = Unit {0}
AreBounded count (f ∷ fs) = (f.depth + length (f ∷ fs) ≡ count) × AreBounded count fs

abbrev pub AreDifferent : List Text → Type 0
AreDifferent [] = Unit {0}
AreDifferent (x ∷ xs) = (is_in xs x ≡ false) × AreDifferent xs

abbrev pub mark_at : List Bool → ℕ → Bool
mark_at marks number = unwrap_or (slice_get marks number) false

abbrev pub AreMarked : List Module → List Bool → List Text → Type 0
AreMarked modules marks names = (number : ℕ) (m : Module) → slice_get modules number ≡ Some m → (number < length marks) × (mark_at marks number ≡ is_in names m.name)

-- the stack shows modules that are visited, with the design so far
pub record IsVisiting (pins : List ResetPin) (modules : List Module) (opens : List Open) (marks : List Bool) (kept : table.Design) (frames : List Frame) (d : Design) : Type 0 where
  pub frames_are : AreFrames modules opens frames
  pub marks_are : AreMarked modules marks (visited frames)
  pub design : ShowsDesign pins kept d
  pub fit : IsFitDesign d
  pub names : All (λ (f : Frame). AreFitNames f.names (length d.entries)) frames
  pub bounded : AreBounded (length modules) frames
  pub different : AreDifferent (visited frames)

-- what is still to come of a module that is visited once this item of it is done
module _ (wires_only : Bool) (modules : List ModuleTree) where
  abbrev pub next_of : Frame → List Frame → Design → ItemTree → Outcome Design
  next_of f fs d i = then_ (chosen_item wires_only modules (visited (f ∷ fs)) f.prefix (chosen_visit wires_only modules f.depth) (record { names = f.names; design = d }) i) (λ s. rest_of wires_only modules (record f { names = s.names } ∷ fs) s.design)

-- the design of a visit that is done
abbrev pub IsGrown : List ResetPin → table.Design → Design → Type 0
IsGrown pins kept d = ShowsDesign pins kept d × IsFitDesign d

-- the wires of a source, or the refusal of what breaks a rule before they are known
abbrev pub AreWires : Outcome Design → Result table.Design Stop → Type 0
AreWires o (Ok kept) = (d : Design) × (o ≡ good d) × IsGrown [] kept d
AreWires o (Err (Refused f)) = o ≡ bad f
AreWires o (Err Memory) = Unit {0}

-- a step keeps what is still to come, or is the refusal that comes of it
abbrev pub Goes : (wires_only : Bool) → List ResetPin → List Module → Outcome Design → Result (Unit {0}) Stop → Visit → Type 0
Goes wires_only pins modules o (Ok u) v = (fs : List Frame) × (t : Design) × (o ≡ rest_of wires_only (map module_of modules) fs t) × IsVisiting pins modules v.open.items v.is_open.items v.design fs t
Goes wires_only pins modules o (Err (Refused f)) v = o ≡ bad f
Goes wires_only pins modules o (Err Memory) v = Unit {0}

-- a step as above, or the end where no module is visited
abbrev pub Steps : (wires_only : Bool) → List ResetPin → List Module → List Frame → Design → Result Bool Stop → Visit → Type 0
Steps wires_only pins modules frames d (Ok true) v = Goes wires_only pins modules (rest_of wires_only (map module_of modules) frames d) (Ok (tt {0})) v
Steps wires_only pins modules frames d (Ok false) v = (frames ≡ []) × IsGrown pins v.design d
Steps wires_only pins modules frames d (Err e) v = Goes wires_only pins modules (rest_of wires_only (map module_of modules) frames d) (Err e) v

-- the parameters and declarations of a module, and the resets among these, in a design so far
abbrev pub begun : Overrides → (prefix : Text) → ModuleTree → Design → Outcome Stage
begun given prefix m d = then_ (parameters given m (record { names = []; design = d })) (λ (s : Stage). then_ (declarations prefix m s) (λ (t : Stage). good (with_resets (length d.entries) t)))

-- a module is begun, or refused
abbrev pub Begins : {S : Type 0} → List ResetPin → Outcome Stage → Result (IndexMap Text Meaning S) Stop → table.Design → Type 0
Begins pins o (Ok names) d = (s : Stage) × (o ≡ good s) × ShowsStage pins names d s × IsFit (look_of s)
Begins pins o (Err (Refused f)) d = o ≡ bad f
Begins pins o (Err Memory) d = Unit {0}

-- names as the code has them
abbrev pub Table : Type 0
Table = IndexMap Text Meaning (BuildHasherDefault FoldHasher)

-- a module is entered with the start values in its header, or refused by one of them
abbrev pub Enters : List ResetPin → ℕ → Table → Given → Visit → Outcome Stage → Result (Unit {0}) Stop → Visit → Type 0
Enters pins number names given old o (Ok u) new = (t : Stage) × (o ≡ good t) × ShowsStage pins names new.design t
    × (new.open.items ≡ old.open.items ++ (record { «module» = number; names = names; next = 0; given = given }) ∷ []) × (new.is_open.items ≡ slice_set old.is_open.items number true)
Enters pins number names given old o (Err (Refused f)) new = o ≡ bad f
Enters pins number names given old o (Err Memory) new = Unit {0}

-- an instance as the source has it
abbrev pub instance_tree : Instance → ItemTree
instance_tree i = record { place = i.place; body = instance i.module.now (conns_of i.params.now) i.name.now (conns_of i.ports.now) }

-- an instance's module, which is not being visited, or the refusal of the instance
abbrev pub Finds : List Module → List Text → Stage → Place → (child x : Text) → Result ℕ Stop → Type 0
Finds modules visiting s p child x (Ok number) = (m : Module) × (slice_get modules number ≡ Some m) × (module_named child (map module_of modules) ≡ Some (module_of m)) × (m.name ≡ child)
    × (is_in visiting m.name ≡ false) × (is_declared s.names x ≡ false)
Finds modules visiting s p child x (Err (Refused f)) = (inside : law.Visit) (prefix : Text) (params ports : ConnsTree)
    → instance_item (map module_of modules) visiting prefix inside s p (module_named child (map module_of modules)) child params x ports ≡ bad f
Finds modules visiting s p child x (Err Memory) = Unit {0}

-- the rules of an instance's overrides and connections
abbrev pub end_rules : Stage → ModuleTree → (params ports : ConnsTree) → List Broken
end_rules s m params ports = override_rules (look_of s) m params ++ connection_rules (look_of s) m ports

-- the overrides and connections of an instance, or the refusal of the rule that they break
abbrev pub AreEnds : {T : Type 0} → List ResetPin → IndexMap Text (Option Bool) T → Stage → Place → ModuleTree → (params ports : ConnsTree) → Result (Overridden × Connected) Stop → Type 0
AreEnds pins table s p m params ports (Ok r) = (end_rules s m params ports ≡ []) × GivesOverrides (look_of s) (joints (overridable m) params) r.0 × GivesLinks pins (look_of s) m table (joints (header_of m) ports) r.1
AreEnds pins table s p m params ports (Err (Refused f)) = judged by_number p (end_rules s m params ports) (tt {0}) ≡ bad f
AreEnds pins table s p m params ports (Err Memory) = Unit {0}

-- ---- resets

abbrev pub pin_in : {S : Type 0} → IndexMap Text Reset S → Text → Option Reset
pin_in table x = get_by (pointwise ◌==◌ x) table

-- a table has the first pin of each name
abbrev pub ShowsPins : {S : Type 0} → IndexMap Text Reset S → List ResetPin → Type 0
ShowsPins table pins = (x : Text) → IsReset pins (pin_in table x) (find (λ (r : ResetPin). bytes_eq r.name x) pins)

-- an entry with this reset, where it is that of this signal
abbrev pub resolved_if : Option Reset → Bool → kept.Entry → kept.Entry
resolved_if q true x = record x { reset = q }
resolved_if q false x = x

-- ---- the top

-- a signal from outside, where it is this one
abbrev pub outside_if : Bool → Signal → Signal
outside_if true y = record y { kind = Input }
outside_if false y = y

-- whether a module declares anything
abbrev pub is_declaration : BodyTree → Bool
is_declaration (decl d) = true
is_declaration b = false

abbrev pub declares : ModuleTree → Bool
declares m = not (length m.ports == 0) || list_any (λ (i : ItemTree). is_declaration i.body) m.items

-- any item but an instance
abbrev pub IsPlain : BodyTree → Type 0
IsPlain (instance child params x ports) = ⊥
IsPlain b = Unit {0}
