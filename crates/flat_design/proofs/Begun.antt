-- A module that declares nothing.
use Rattle.std.proofs.Common.{◌≡◌, Bool, true, false, cond, not, ◌==◌, List, [], ◌∷◌, ◌++◌, length, map, None, Ok, Err, refl, sym, ap, subst, ◌∙◌, arith, rules, eqb-true}
use Rattle.std.specs.Prelude.{flat_map, option_map}
use Rattle.std.specs.List.{list_any}
use Rattle.std.proofs.lemmas.Bool.{or_parts}
use Rattle.cdc_base.specs.declared.fault.Place.{Place}
use Rattle.verilog_reading.specs.SourceTree.{DeclTree, PortTree, BodyTree, param, decl, assign, gate, instance, always, initial, ItemTree, ModuleTree}
use Rattle.flat_unfolding.specs.Outcome.{Text, Outcome, good, then_, each}
use Rattle.flat_unfolding.specs.Declarations.{Site, declaration, decl_in, item_decls, declarations}
use Rattle.flat_unfolding.specs.Parameters.{Overrides, parameters}
use Rattle.flat_unfolding.specs.Design.{Design, Stage, look_of}
use Rattle.flat_unfolding.specs.Unfolding.{with_resets}
use Rattle.cdc_base.specs.declared.fault.Stop.{Stop}
use Rattle.cdc_base.specs.declared.fault.Stop.TheVariants.{Refused, Memory}
use Rattle.cdc_base.specs.declared.signal.ResetPin.{ResetPin}
use Rattle.flat_names.specs.declared.design.Design as grown
use Rattle.flat_names.specs.Looks.{meaning_of, kept_in, IsFit}
use Rattle.flat_names.specs.Designs.{ShowsNames, ShowsDesign}
use Rattle.flat_declarations.specs.Declaring.{MeetsFit}
use Rattle.flat_design.specs.Visiting.{is_declaration, declares, IsFitDesign, begun, Begins, Table}
use Rattle.flat_design.proofs.Fits.{resets-fit}

no-ports : (ps : List PortTree) → not (length ps == 0) ≡ false → ps ≡ []
no-ports [] e = refl
no-ports (p ∷ ps) e = absurd (go (length (p ∷ ps) == 0) refl e)
  where
    go : (b : Bool) → (length (p ∷ ps) == 0) ≡ b → not b ≡ false → ⊥
    go true d f = let k = eqb-true (length (p ∷ ps)) 0 d in omega (arith, k)
    go false d f = search (rules, f)

none-in : (i : ItemTree) → is_declaration i.body ≡ false → decl_in i ≡ []
none-in i e = go i.body e
  where
    go : (b : BodyTree) → is_declaration b ≡ false → decl_in (record { place = i.place; body = b }) ≡ []
    go (param p) e = refl
    go (decl d) e = absurd (search (rules, e))
    go (assign t v) e = refl
    go (gate kind es) e = refl
    go (instance child params x ports) e = refl
    go (always event body) e = refl
    go (initial body) e = refl

none-among : (is : List ItemTree) → list_any (λ (i : ItemTree). is_declaration i.body) is ≡ false → flat_map decl_in is ≡ []
none-among [] e = refl
none-among (i ∷ is) e =
    let p = or_parts (is_declaration i.body) (list_any (λ (j : ItemTree). is_declaration j.body) is) e in
    ap (λ ds. ds ++ flat_map decl_in is) (none-in i p.0) ∙ none-among is p.1

cond-same : {A : Type 0} (b : Bool) (a : A) → cond b a a ≡ a
cond-same true a = refl
cond-same false a = refl

bare : (prefix : Text) (m : ModuleTree) (s : Stage) → item_decls m ≡ [] → declarations prefix (record m { ports = [] }) s ≡ good s
bare prefix m s e =
    let n : ModuleTree = record m { ports = [] } in
    ap (λ (o : Outcome (Unit {0})). then_ o (λ u. then_ (each declaration s (map (λ (q : Place × DeclTree). let at : Site = record { prefix = prefix; header = []; in_header = false; place = q.0 } in (at, q.1)) (item_decls m))) (λ (t : Stage). good t)))
    (cond-same m.ansi (good tt))
    ∙ ap (λ (ds : List (Place × DeclTree)). then_ (each declaration s (map (λ (q : Place × DeclTree). let at : Site = record { prefix = prefix; header = []; in_header = false; place = q.0 } in (at, q.1)) ds)) (λ (t : Stage). good t)) e

pub declares-nothing : (prefix : Text) (m : ModuleTree) (s : Stage) → declares m ≡ false → declarations prefix m s ≡ good s
declares-nothing prefix m s e =
    let p = or_parts (not (length m.ports == 0)) (list_any (λ (i : ItemTree). is_declaration i.body) m.items) e in
    let ports : m.ports ≡ [] = no-ports m.ports p.0 in
    subst (λ (q : ModuleTree). declarations prefix q s ≡ good s) (sym (ap (λ (ps : List PortTree). record m { ports = ps }) ports)) (bare prefix m s (none-among m.items p.1))

-- ---- a module is begun

pub no-names : (table : Table) → ((x : Text) → kept_in table x ≡ None) → ShowsNames table []
no-names table h = record { kept = λ x. ap (option_map meaning_of) (h x) }

pub no-names-fit : (d : Design) → IsFitDesign d → IsFit (look_of (record { names = []; design = d }))
no-names-fit d h = record {
  params = λ x p e. absurd (search (rules, e));
  signals = λ x s e. absurd (search (rules, e));
  memories = λ x a e. absurd (search (rules, e));
  entries = h.entries;
  few = h.few;
}

module _ (pins : List ResetPin) (given : Overrides) (prefix : Text) (m : ModuleTree) (d : Design) where
  abbrev first : Stage
  first = record { names = []; design = d }

  with-declared : Stage → Outcome Stage
  with-declared s = then_ (declarations prefix m s) (λ (t : Stage). good (with_resets (length d.entries) t))

  -- its parameters are refused
  pub parameters-refused : (S : Type 0) (table : Table) (kept new : grown.Design) (e : Stop) → MeetsFit pins table (parameters given m first) (Err e) kept → Begins {S = S} pins (begun given prefix m d) (Err e) new
  unfolding with-declared
  parameters-refused S table kept new (Refused f) h = ap (λ (q : Outcome Stage). then_ q with-declared) h
  parameters-refused S table kept new Memory h = tt

  module _ (s : Stage) (is : parameters given m first ≡ good s) where
    goes-on : begun given prefix m d ≡ then_ (declarations prefix m s) (λ (t : Stage). good (with_resets (length d.entries) t))
    unfolding with-declared
    goes-on = ap (λ (q : Outcome Stage). then_ q with-declared) is

    -- its declarations are refused
    pub declarations-refused : (S : Type 0) (table : Table) (new : grown.Design) (e : Stop) → MeetsFit pins table (declarations prefix m s) (Err e) new → Begins {S = S} pins (begun given prefix m d) (Err e) new
    declarations-refused S table new (Refused f) h = goes-on ∙ ap (λ (q : Outcome Stage). then_ q (λ (t : Stage). good (with_resets (length d.entries) t))) h
    declarations-refused S table new Memory h = tt

    -- it is begun once the resets among its declarations are known
    pub module-begun : (table : Table) (kept new : grown.Design) → MeetsFit pins table (declarations prefix m s) (Ok tt) kept
        → ((t : Stage) → ShowsDesign pins kept t.design → ShowsDesign pins new (with_resets (length d.entries) t).design) → Begins pins (begun given prefix m d) (Ok table) new
    module-begun table kept new h resolves = (
      with_resets (length d.entries) h.0,
      goes-on ∙ ap (λ (q : Outcome Stage). then_ q (λ (t : Stage). good (with_resets (length d.entries) t))) h.1,
      record { names = h.2.names; design = resolves h.0 h.2.design },
      resets-fit (length d.entries) h.0 h.3,
    )
