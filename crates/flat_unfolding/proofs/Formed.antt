-- The modules of a source that is well formed, and their parameters and declarations.
use Rattle.std.proofs.Common.{◌≡◌, Bool, true, false, cond, List, [], ◌∷◌, map, Option, Some, None, subst, rules, find, bytes_eq}
use Rattle.std.specs.Prelude.{All, flat_map, filter_map}
use Rattle.std.specs.List.{cons_option}
use Rattle.std.proofs.lemmas.List.Elements.{All-head, All-tail, All-cons, All-nil, All-append}
use Rattle.cdc_base.specs.declared.fault.Place.{Place}
use Rattle.verilog_reading.specs.SourceTree.{ParamTree, DeclTree, PortTree, BodyTree, param, decl, assign, gate, instance, always, initial, ItemTree, ModuleTree}
use Rattle.flat_unfolding.specs.Outcome.{Text}
use Rattle.flat_unfolding.specs.Parameters.{param_in, params_of}
use Rattle.flat_unfolding.specs.Declarations.{decl_in}
use Rattle.flat_unfolding.specs.Formed.{IsParamFormed, IsDeclFormed, IsPortFormed, IsBodyFormed, IsModuleFormed, IsSourceFormed}
use Rattle.flat_unfolding.proofs.Steps.{some_is}

abbrev IsItemFormed : ItemTree → Type 0
IsItemFormed i = IsBodyFormed i.body

-- ---- parameters

abbrev pub IsParamIn : Place × ParamTree → Type 0
IsParamIn q = IsParamFormed q.1

item_params : (i : ItemTree) → IsItemFormed i → All IsParamIn (param_in i)
item_params i = go i.body
  where
    go : (b : BodyTree) → IsBodyFormed b → All IsParamIn (param_in (record { place = i.place; body = b }))
    go (param p) h = All-cons IsParamIn (i.place, p) [] h (All-nil IsParamIn)
    go (decl d) h = All-nil IsParamIn
    go (assign t e) h = All-nil IsParamIn
    go (gate kind es) h = All-nil IsParamIn
    go (instance child params x ports) h = All-nil IsParamIn
    go (always event body) h = All-nil IsParamIn
    go (initial body) h = All-nil IsParamIn

pub inner_formed : (is : List ItemTree) → All IsItemFormed is → All IsParamIn (flat_map param_in is)
inner_formed [] h = All-nil IsParamIn
inner_formed (i ∷ is) h = All-append IsParamIn (param_in i) (flat_map param_in is) (item_params i (All-head IsItemFormed i is h)) (inner_formed is (All-tail IsItemFormed i is h))

pub params_formed : (m : ModuleTree) → IsModuleFormed m → All IsParamIn (params_of m)
params_formed m h = All-append IsParamIn (map (λ p. (m.place, p)) m.params) (flat_map param_in m.items) (placed m.params h.params) (inner_formed m.items h.items)
  where
    placed : (ps : List ParamTree) → All IsParamFormed ps → All IsParamIn (map (λ p. (m.place, p)) ps)
    placed [] f = All-nil IsParamIn
    placed (p ∷ ps) f = All-cons IsParamIn (m.place, p) (map (λ p. (m.place, p)) ps) (All-head IsParamFormed p ps f) (placed ps (All-tail IsParamFormed p ps f))

-- ---- declarations

pub header_formed : (ps : List PortTree) → All IsPortFormed ps → All IsDeclFormed (filter_map (λ (p : PortTree). p.decl) ps)
header_formed [] h = All-nil IsDeclFormed
header_formed (p ∷ ps) h = go p.decl (All-head IsPortFormed p ps h) (header_formed ps (All-tail IsPortFormed p ps h))
  where
    go : (o : Option DeclTree) → IsPortFormed (record { name = p.name; decl = o }) → All IsDeclFormed (filter_map (λ (p : PortTree). p.decl) ps) → All IsDeclFormed (cons_option o (filter_map (λ (p : PortTree). p.decl) ps))
    go None f rest = rest
    go (Some d) f rest = All-cons IsDeclFormed d (filter_map (λ (p : PortTree). p.decl) ps) f rest

abbrev IsDeclIn : Place × DeclTree → Type 0
IsDeclIn q = IsDeclFormed q.1

item_declared : (i : ItemTree) → IsItemFormed i → All IsDeclIn (decl_in i)
item_declared i = go i.body
  where
    go : (b : BodyTree) → IsBodyFormed b → All IsDeclIn (decl_in (record { place = i.place; body = b }))
    go (decl d) h = All-cons IsDeclIn (i.place, d) [] h (All-nil IsDeclIn)
    go (param p) h = All-nil IsDeclIn
    go (assign t e) h = All-nil IsDeclIn
    go (gate kind es) h = All-nil IsDeclIn
    go (instance child params x ports) h = All-nil IsDeclIn
    go (always event body) h = All-nil IsDeclIn
    go (initial body) h = All-nil IsDeclIn

pub items_formed : (is : List ItemTree) → All IsItemFormed is → All IsDeclIn (flat_map decl_in is)
items_formed [] h = All-nil IsDeclIn
items_formed (i ∷ is) h = All-append IsDeclIn (decl_in i) (flat_map decl_in is) (item_declared i (All-head IsItemFormed i is h)) (items_formed is (All-tail IsItemFormed i is h))

-- ---- modules

pub found_formed : (x : Text) (ms : List ModuleTree) → IsSourceFormed ms → (m : ModuleTree) → find (λ (m : ModuleTree). bytes_eq m.name x) ms ≡ Some m → IsModuleFormed m
found_formed x [] h m e = absurd (search (rules, e))
found_formed x (n ∷ ms) h m e = go (bytes_eq n.name x) e (found_formed x ms (All-tail IsModuleFormed n ms h) m)
  where
    go : (b : Bool) → cond b (Some n) (find (λ (m : ModuleTree). bytes_eq m.name x) ms) ≡ Some m → (find (λ (m : ModuleTree). bytes_eq m.name x) ms ≡ Some m → IsModuleFormed m) → IsModuleFormed m
    go true e k = subst IsModuleFormed (some_is n m e) (All-head IsModuleFormed n ms h)
    go false e k = k e
