-- Steps of a visit: what is still to come stays the same, and the stack shows it.
use Rattle.std.proofs.Common.{◌≡◌, ◌≢◌, ℕ, zero, suc, ◌+◌, ◌-◌, ◌^◌, ◌≤◌, ◌==◌, Bool, true, false, cond, List, [], ◌∷◌, ◌++◌, length, map, drop, Option, Some, None, refl, sym, ap, subst, ◌∙◌, arith, rules}
use Rattle.std.specs.Prelude.{Result, Ok, Err, All, slice_get, slice_set, option_and_then, option_map, is_some, codes, bytes_eq}
use Rattle.std.specs.Cmp.Lexicographic.{pointwise}
use Rattle.std.proofs.lemmas.Slice.Eq.{bytes_eq-Decides}
use Rattle.std.proofs.lemmas.List.Elements.{All-head, All-tail, All-cons}
use Rattle.indexmap.specs.IndexMap.{IndexMap}
use Rattle.cdc_base.specs.declared.signal.ResetPin.{ResetPin}
use Rattle.cdc_base.specs.declared.fault.Place.{Place}
use Rattle.cdc_base.specs.declared.fault.Stop.{Stop}
use Rattle.cdc_base.specs.declared.fault.Stop.TheVariants.{Refused, Memory}
use Rattle.cdc_base.specs.Words.{found_in, is_in}
use Rattle.verilog_ast.specs.declared.Module.{Module}
use Rattle.verilog_ast.specs.declared.Conns.{Conns}
use Rattle.verilog_ast.specs.declared.Item.{Item}
use Rattle.verilog_ast.specs.declared.ItemBody.{ItemBody}
use Rattle.verilog_ast.specs.declared.ItemBody.TheVariants as bodies
use Rattle.verilog_reading.specs.SourceTree.{ConnsTree, instance, ItemTree, body_of, item_of, ModuleTree, module_of}
use Rattle.flat_unfolding.specs.Outcome.{Text, Outcome, good, then_}
use Rattle.flat_unfolding.specs.Names.{Names, no_value, is_declared, printed_part, Look}
use Rattle.flat_unfolding.specs.Declarations.{header_decls}
use Rattle.flat_unfolding.specs.Instances.{Link, overrides_of, links_of, connected, leaning_of}
use Rattle.flat_unfolding.specs.Design.{Design, Stage, look_of}
use Rattle.flat_unfolding.specs.Unfolding.{module_named, header_values}
use Rattle.flat_unfolding.specs.Formed.{IsBodyFormed, IsModuleFormed}
use Rattle.flat_unfolding.proofs.Steps.{some_is}
use Rattle.flat_names.specs.declared.scope.Meaning.TheVariants as m
use Rattle.flat_names.specs.declared.design.Design as table
use Rattle.flat_names.specs.Looks.{meaning_of, kept_in, IsFit}
use Rattle.flat_names.specs.Designs.{ShowsNames, ShowsDesign, ShowsStage, Meets, Ends}
use Rattle.flat_design.specs.declared.instance.Given.{Given}
use Rattle.flat_design.specs.declared.visit.Open.{Open}
use Rattle.flat_design.specs.declared.visit.Visit.{Visit}
use Rattle.flat_design.specs.Chosen.{chosen_item, chosen_visit}
use Rattle.flat_design.specs.Visiting.{Frame, visited, closed, IsClosed, leaning_in, rest_of, item_before, part_of, prefix_of, IsFrame, AreFrames, AreFitNames, IsVisiting, IsPlain, next_of, IsGrown, Goes, begun, Begins, Table, Enters, Finds, AreEnds, end_rules}
use Rattle.flat_design.proofs.Fits.{fit-stage, KeepsLook, still-fit, values-look}
use Rattle.flat_design.proofs.Connected.{connected-fit, connected-count}
use Rattle.flat_design.proofs.Stacks.{AreNamedApart, innermost, left-behind}
use Rattle.flat_design.proofs.Visits.{rest-none, rest-next, instance-is, instance-bad}
use Rattle.flat_design.proofs.Entered.{here, prefix-below, entered}
use Rattle.flat_design.proofs.Longer.{begun-more}
use Rattle.flat_design.proofs.Deep.{one-deeper}

-- ---- items by their place

drop-none : {A : Type 0} (xs : List A) (k : ℕ) → slice_get xs k ≡ None → drop k xs ≡ []
drop-none [] zero e = refl
drop-none [] (suc k) e = refl
drop-none (x ∷ xs) zero e = absurd (search (rules, e))
drop-none (x ∷ xs) (suc k) e = drop-none xs k e

drop-some : {A : Type 0} (xs : List A) (k : ℕ) (x : A) → slice_get xs k ≡ Some x → drop k xs ≡ x ∷ drop (suc k) xs
drop-some [] k x e = absurd (search (rules, e))
drop-some (y ∷ xs) zero x e = ap (λ z. z ∷ xs) (some_is y x e)
drop-some (y ∷ xs) (suc k) x e = drop-some xs k x e

-- the item at a place of a module
abbrev pub item_at : List Module → (number place : ℕ) → Option Item
item_at modules number place = option_and_then (λ (q : Module). slice_get q.items place) (slice_get modules number)

module-formed : (modules : List Module) (i : ℕ) (q : Module) → All IsModuleFormed (map module_of modules) → slice_get modules i ≡ Some q → IsModuleFormed (module_of q)
module-formed [] i q h e = absurd (search (rules, e))
module-formed (k ∷ modules) zero q h e = subst (λ (z : Module). IsModuleFormed (module_of z)) (some_is k q e) (All-head IsModuleFormed (module_of k) (map module_of modules) h)
module-formed (k ∷ modules) (suc i) q h e = module-formed modules i q (All-tail IsModuleFormed (module_of k) (map module_of modules) h) e

pub formed-at : (modules : List Module) (i : ℕ) (q : Module) → All IsModuleFormed (map module_of modules) → slice_get modules i ≡ Some q → IsModuleFormed (module_of q)
formed-at = module-formed

body-formed : (items : List Item) (k : ℕ) (i : Item) → All (λ (t : ItemTree). IsBodyFormed t.body) (map item_of items) → slice_get items k ≡ Some i → IsBodyFormed (body_of i.body)
body-formed [] k i h e = absurd (search (rules, e))
body-formed (j ∷ items) zero i h e = subst (λ (z : Item). IsBodyFormed (body_of z.body)) (some_is j i e) (All-head (λ (t : ItemTree). IsBodyFormed t.body) (item_of j) (map item_of items) h)
body-formed (j ∷ items) (suc k) i h e = body-formed items k i (All-tail (λ (t : ItemTree). IsBodyFormed t.body) (item_of j) (map item_of items) h) e

pub item-formed : (modules : List Module) (number place : ℕ) (i : Item) → All IsModuleFormed (map module_of modules) → item_at modules number place ≡ Some i → IsBodyFormed (body_of i.body)
item-formed modules number place i h e = go (slice_get modules number) refl e
  where
    go : (o : Option Module) → slice_get modules number ≡ o → option_and_then (λ (q : Module). slice_get q.items place) o ≡ Some i → IsBodyFormed (body_of i.body)
    go None f g = absurd (search (rules, g))
    go (Some q) f g = body-formed q.items place i (module-formed modules number q h f).items g

-- ---- one step

nothing-open : {A : Type 0} (xs : List A) (x : A) → [] ≢ (xs ++ x ∷ [])
nothing-open [] x e = absurd (search (rules, e))
nothing-open (y ∷ xs) x e = absurd (search (rules, e))

pub no-frames : (modules : List Module) (frames : List Frame) → AreFrames modules [] frames → frames ≡ []
no-frames modules [] h = refl
no-frames modules (f ∷ fs) h = absurd (nothing-open h.0 h.1 h.2)

pub none-open : {A : Type 0} (xs : List A) → length xs ≡ 0 → xs ≡ []
none-open [] e = refl
none-open (x ∷ xs) e = absurd (omega (arith, e))

pub plain-if : (b : ItemBody) → ((child : Text) (params : Conns) (x : Text) (ports : Conns) → b ≡ bodies.Instance child params x ports → ⊥) → IsPlain (body_of b)
plain-if (bodies.Instance child params x ports) h = h child params x ports refl
plain-if (bodies.Param q) h = tt
plain-if (bodies.Decl d) h = tt
plain-if (bodies.Assign t e) h = tt
plain-if (bodies.Gate kind es) h = tt
plain-if (bodies.Always event body) h = tt
plain-if (bodies.Initial body) h = tt

module _ (wires_only : Bool) (pins : List ResetPin) (modules : List Module) (apart : AreNamedApart modules) (opens outer : List Open) (o : Open) (marks : List Bool) (kept : table.Design) (d : Design) (popped : opens ≡ outer ++ o ∷ []) where
  -- a module without an item that is left
  pub record IsLeft (frames : List Frame) : Type 0 where
    pub f : Frame
    pub fs : List Frame
    pub rest : rest_of wires_only (map module_of modules) frames d ≡ then_ (closed f (record { names = f.names; design = d })) (λ u. rest_of wires_only (map module_of modules) fs d)
    pub is : IsFrame modules o f
    pub names : AreFitNames f.names (length d.entries)
    pub visiting : IsVisiting pins modules outer (slice_set marks o.module false) kept fs d

  pub is-left : (frames : List Frame) → IsVisiting pins modules opens marks kept frames d → item_at modules o.module o.next ≡ None → IsLeft frames
  is-left frames h none =
      let i = innermost pins modules apart opens outer o marks kept d popped frames h.frames_are in
      let no = drop-none i.is.tree.items o.next (sym (ap (option_and_then (λ (q : Module). slice_get q.items o.next)) i.is.found) ∙ none) in
      let items : i.f.items ≡ [] = i.is.items ∙ ap (map item_of) no in
      let v = subst (λ fs. IsVisiting pins modules opens marks kept fs d) i.frames_are h in
      record {
        f = i.f;
        fs = i.fs;
        rest = ap (λ fs. rest_of wires_only (map module_of modules) fs d) i.frames_are ∙ rest-none wires_only (map module_of modules) i.f i.fs d items;
        is = i.is;
        names = All-head (λ (g : Frame). AreFitNames g.names (length d.entries)) i.f i.fs v.names;
        visiting = left-behind pins modules apart opens outer o marks kept d popped i.f i.fs v i.is i.around;
      }

  -- what was given to it is wide enough, or it is refused
  pub left-on : (frames : List Frame) (l : IsLeft frames) (v : Visit) → closed l.f (record { names = l.f.names; design = d }) ≡ good tt → v.open.items ≡ outer → v.is_open.items ≡ slice_set marks o.module false → v.design ≡ kept
      → Goes wires_only pins modules (rest_of wires_only (map module_of modules) frames d) (Ok tt) v
  left-on frames l v e stack flags same = (
    l.fs,
    d,
    l.rest ∙ ap (λ q. then_ q (λ u. rest_of wires_only (map module_of modules) l.fs d)) e,
    subst (λ (os : List Open). IsVisiting pins modules os v.is_open.items v.design l.fs d) (sym stack)
        (subst (λ (ms : List Bool). IsVisiting pins modules outer ms v.design l.fs d) (sym flags)
        (subst (λ (k : table.Design). IsVisiting pins modules outer (slice_set marks o.module false) k l.fs d) (sym same) l.visiting)),
  )

  pub left-refused : (frames : List Frame) (l : IsLeft frames) (v : Visit) (e : Stop) → IsClosed (closed l.f (record { names = l.f.names; design = d })) (Err e) → Goes wires_only pins modules (rest_of wires_only (map module_of modules) frames d) (Err e) v
  left-refused frames l v (Refused q) h = l.rest ∙ ap (λ r. then_ r (λ u. rest_of wires_only (map module_of modules) l.fs d)) h
  left-refused frames l v Memory h = tt

  -- a module with an item that is left
  pub record HasNext (i : Item) (o' : Open) (frames : List Frame) : Type 0 where
    pub f : Frame
    pub fs : List Frame
    pub rest : rest_of wires_only (map module_of modules) frames d ≡ next_of wires_only (map module_of modules) f fs d (item_of i)
    pub visiting : IsVisiting pins modules (outer ++ o' ∷ []) marks kept (f ∷ fs) d
    pub before : item_before modules o' ≡ Some i

  pub has-next : (frames : List Frame) → IsVisiting pins modules opens marks kept frames d → (i : Item) → item_at modules o.module o.next ≡ Some i → (next : ℕ) → next ≡ o.next + 1
      → HasNext i (record o { next = next }) frames
  has-next frames h i some next is =
      let k = innermost pins modules apart opens outer o marks kept d popped frames h.frames_are in
      let e : o.next + 1 ≡ suc o.next = omega arith in
      let at = sym (ap (option_and_then (λ (q : Module). slice_get q.items o.next)) k.is.found) ∙ some in
      let items : k.f.items ≡ item_of i ∷ map item_of (drop (suc o.next) k.is.tree.items) = k.is.items ∙ ap (map item_of) (drop-some k.is.tree.items o.next i at) in
      let v = subst (λ fs. IsVisiting pins modules opens marks kept fs d) k.frames_are h in
      record {
        f = record k.f { items = map item_of (drop (suc o.next) k.is.tree.items) };
        fs = k.fs;
        rest = ap (λ fs. rest_of wires_only (map module_of modules) fs d) k.frames_are ∙ rest-next wires_only (map module_of modules) k.f k.fs d (item_of i) (map item_of (drop (suc o.next) k.is.tree.items)) items;
        visiting = record {
          frames_are = (
            outer,
            record o { next = next },
            refl,
            record { tree = k.is.tree; found = k.is.found; is = k.is.is; items = ap (λ j. map item_of (drop j k.is.tree.items)) (sym e ∙ sym is); names = k.is.names; given = k.is.given; place = k.is.place },
            k.prefix,
            k.around,
          );
          marks_are = v.marks_are;
          design = v.design;
          fit = v.fit;
          names = All-cons (λ (g : Frame). AreFitNames g.names (length d.entries)) (record k.f { items = map item_of (drop (suc o.next) k.is.tree.items) }) k.fs
              (All-head (λ (g : Frame). AreFitNames g.names (length d.entries)) k.f k.fs v.names) (All-tail (λ (g : Frame). AreFitNames g.names (length d.entries)) k.f k.fs v.names);
          bounded = v.bounded;
          different = v.different;
        };
        before = ap (λ j. item_at modules o.module j) (let z : next - 1 ≡ o.next = omega (arith, is) in z) ∙ some;
      }

-- ---- an item that declares nothing

module _ (wires_only : Bool) (pins : List ResetPin) (modules : List Module) where
  pub still-visiting : (opens : List Open) (marks : List Bool) (kept grown : table.Design) (f : Frame) (fs : List Frame) (d : Design) (t : Stage) → IsVisiting pins modules opens marks kept (f ∷ fs) d
      → KeepsLook (record { names = f.names; design = d }) t → ShowsDesign pins grown t.design → IsVisiting pins modules opens marks grown (record f { names = t.names } ∷ fs) t.design
  still-visiting opens marks kept grown f fs d t h e shown = go t.names t.design (ap (λ (l : Look). l.names) e) (ap (λ (l : Look). l.entries) e) shown
    where
      go : (ns : Names) (x : Design) → ns ≡ f.names → x.entries ≡ d.entries → ShowsDesign pins grown x → IsVisiting pins modules opens marks grown (record f { names = ns } ∷ fs) x
      go ns x a b s = subst (λ (ms : Names). IsVisiting pins modules opens marks grown (record f { names = ms } ∷ fs) x) (sym a) (record {
        frames_are = h.frames_are;
        marks_are = h.marks_are;
        design = s;
        fit = record {
          entries = λ i y at. h.fit.entries i y (ap (λ es. slice_get es i) (sym b) ∙ at);
          few = subst (λ (c : ℕ). c ≤ 2 ^ 32) (sym (ap length b)) h.fit.few;
        };
        names = subst (λ (c : ℕ). All (λ (g : Frame). AreFitNames g.names c) (f ∷ fs)) (sym (ap length b)) h.names;
        bounded = h.bounded;
        different = h.different;
      })

  -- the item's refusal is that of what is still to come
  pub item-refused : (f : Frame) (fs : List Frame) (d : Design) (i : ItemTree) (names : Table) (kept : table.Design) (v : Visit) (e : Stop)
      → Meets pins names (chosen_item wires_only (map module_of modules) (visited (f ∷ fs)) f.prefix (chosen_visit wires_only (map module_of modules) f.depth) (record { names = f.names; design = d }) i) (Err e) kept
      → Goes wires_only pins modules (next_of wires_only (map module_of modules) f fs d i) (Err e) v
  item-refused f fs d i names kept v (Refused x) h = ap (λ (o : Outcome Stage). then_ o (λ (s : Stage). rest_of wires_only (map module_of modules) (record f { names = s.names } ∷ fs) s.design)) h
  item-refused f fs d i names kept v Memory h = tt

  -- the item is done
  pub item-done : (opens : List Open) (o : Open) (marks : List Bool) (kept : table.Design) (f : Frame) (fs : List Frame) (d : Design) (i : ItemTree) (v : Visit) → IsVisiting pins modules (opens ++ o ∷ []) marks kept (f ∷ fs) d
      → ((t : Stage) → chosen_item wires_only (map module_of modules) (visited (f ∷ fs)) f.prefix (chosen_visit wires_only (map module_of modules) f.depth) (record { names = f.names; design = d }) i ≡ good t → KeepsLook (record { names = f.names; design = d }) t)
      → Meets pins o.names (chosen_item wires_only (map module_of modules) (visited (f ∷ fs)) f.prefix (chosen_visit wires_only (map module_of modules) f.depth) (record { names = f.names; design = d }) i) (Ok tt) v.design
      → v.open.items ≡ opens ++ o ∷ [] → v.is_open.items ≡ marks → Goes wires_only pins modules (next_of wires_only (map module_of modules) f fs d i) (Ok tt) v
  item-done opens o marks kept f fs d i v h looks e stack kept-marks =
      let t = e.0 in (
        record f { names = t.names } ∷ fs,
        t.design,
        ap (λ (q : Outcome Stage). then_ q (λ (s : Stage). rest_of wires_only (map module_of modules) (record f { names = s.names } ∷ fs) s.design)) e.1,
        subst (λ (os : List Open). IsVisiting pins modules os v.is_open.items v.design (record f { names = t.names } ∷ fs) t.design) (sym stack)
            (subst (λ (ms : List Bool). IsVisiting pins modules (opens ++ o ∷ []) ms v.design (record f { names = t.names } ∷ fs) t.design) (sym kept-marks)
            (still-visiting (opens ++ o ∷ []) marks kept v.design f fs d t h (looks t e.1) e.2.design)),
      )

-- ---- an instance

-- the instance's name is new in the table and in the list alike
pub named-instance : (old new : Table) (names : Names) (x : Text) → ShowsNames old names → is_declared names x ≡ false
    → ((y : Text) → kept_in new y ≡ cond (pointwise ◌==◌ x y) (Some m.NoValue) (kept_in old y)) → ShowsNames new (names ++ ((x, no_value) ∷ []))
named-instance old new names x h fresh e = record { kept = λ y. ap (option_map meaning_of) (e y) ∙ kept (bytes_eq x y) y refl }
  where
    behind : (ns : Names) → is_declared ns x ≡ false → found_in (ns ++ ((x, no_value) ∷ [])) x ≡ Some no_value
    behind [] f = ap (λ b. cond b (Some no_value) None) ((bytes_eq-Decides x x).1 refl)
    behind (p ∷ ns) f = go (bytes_eq p.0 x) f (behind ns)
      where
        go : (b : Bool) → is_some (cond b (Some p.1) (found_in ns x)) ≡ false → (is_declared ns x ≡ false → found_in (ns ++ ((x, no_value) ∷ [])) x ≡ Some no_value)
            → cond b (Some p.1) (found_in (ns ++ ((x, no_value) ∷ [])) x) ≡ Some no_value
        go true f g = absurd (search (rules, f))
        go false f g = g f

    other : (ns : Names) (y : Text) → bytes_eq x y ≡ false → found_in (ns ++ ((x, no_value) ∷ [])) y ≡ found_in ns y
    other [] y k = ap (λ b. cond b (Some no_value) None) k
    other (p ∷ ns) y k = ap (λ o. cond (bytes_eq p.0 y) (Some p.1) o) (other ns y k)

    kept : (b : Bool) (y : Text) → bytes_eq x y ≡ b → option_map meaning_of (cond b (Some m.NoValue) (kept_in old y)) ≡ found_in (names ++ ((x, no_value) ∷ [])) y
    kept true y k = sym (ap (found_in (names ++ ((x, no_value) ∷ []))) (sym ((bytes_eq-Decides x y).0 k)) ∙ behind names fresh)
    kept false y k = h.kept y ∙ sym (other names y k)

module _ (wires_only : Bool) (pins : List ResetPin) (modules : List Module) (f : Frame) (fs : List Frame) (d : Design) (p : Place) (child x : Text) (params ports : ConnsTree) where
  abbrev the_item : ItemTree
  the_item = record { place = p; body = instance child params x ports }

  abbrev the_stage : Stage
  the_stage = record { names = f.names; design = d }

  -- its module isn't found
  pub not-found : (v : Visit) (e : Stop) → Finds modules (visited (f ∷ fs)) the_stage p child x (Err e) → Goes wires_only pins modules (next_of wires_only (map module_of modules) f fs d the_item) (Err e) v
  not-found v (Refused q) h =
      ap (λ (o : Outcome Stage). then_ o (λ (s : Stage). rest_of wires_only (map module_of modules) (record f { names = s.names } ∷ fs) s.design)) (h (chosen_visit wires_only (map module_of modules) f.depth) f.prefix params ports)
  not-found v Memory h = tt

  -- the module that was found, by its number
  pub record IsFound (number : ℕ) (k : Module) : Type 0 where
    pub at : slice_get modules number ≡ Some k
    pub named : module_named child (map module_of modules) ≡ Some (module_of k)
    pub name : k.name ≡ child
    pub new : is_in (visited (f ∷ fs)) k.name ≡ false
    pub fresh : is_declared f.names x ≡ false

  pub found-is : (number : ℕ) (k : Module) → slice_get modules number ≡ Some k → Finds modules (visited (f ∷ fs)) the_stage p child x (Ok number) → IsFound number k
  found-is number k at h = subst (IsFound number) (some_is h.0 k (sym h.1 ∙ at)) (record { at = h.1; named = h.2; name = h.3; new = h.4; fresh = h.5 })

  module _ (number : ℕ) (k : Module) (found : IsFound number k) where
    abbrev t : ModuleTree
    t = module_of k

    -- its overrides or connections break a rule
    pub not-joined : (T : Type 0) (sides : IndexMap Text (Option Bool) T) (v : Visit) (e : Stop) → AreEnds pins sides the_stage p t params ports (Err e)
        → Goes wires_only pins modules (next_of wires_only (map module_of modules) f fs d the_item) (Err e) v
    not-joined T sides v (Refused q) h = instance-bad wires_only (map module_of modules) f fs d p t child params x ports q found.named found.new found.fresh h
    not-joined T sides v Memory h = tt

    module _ (apart : AreNamedApart modules) (opens : List Open) (o : Open) (marks : List Bool) (kept : table.Design) (h : IsVisiting pins modules (opens ++ o ∷ []) marks kept (f ∷ fs) d)
        (part : part_of modules o ≡ printed_part x ++ codes ".") (names : Table) (shows : ShowsNames names (f.names ++ ((x, no_value) ∷ []))) (right : end_rules the_stage t params ports ≡ []) where
      abbrev deep : f.depth ≡ suc (f.depth - 1)
      deep = one-deeper modules (opens ++ o ∷ []) f fs number k h.frames_are h.different found.at found.new h.bounded.0

      abbrev renamed : List Open
      renamed = opens ++ record o { names = names } ∷ []

      abbrev entry : Outcome Stage
      entry = begun (overrides_of (look_of the_stage) t params) (prefix_of modules renamed) t d

      to-come : Stage → Outcome Design
      to-come s = then_ (header_values t (connected (links_of (look_of the_stage) t ports) s)) (λ (u : Stage). rest_of wires_only (map module_of modules)
          (record { tree = t; names = u.names; items = t.items; prefix = f.prefix ++ printed_part x ++ codes "."; depth = f.depth - 1; given = leaning_of (look_of the_stage) t params ports; place = Some p } ∷ record f { names = f.names ++ ((x, no_value) ∷ []) } ∷ fs) u.design)

      next-is : next_of wires_only (map module_of modules) f fs d the_item ≡ then_ entry to-come
      unfolding to-come
      next-is =
          instance-is wires_only (map module_of modules) f fs d p t child params x ports (f.depth - 1) deep found.named found.new found.fresh right
          ∙ ap (λ (prefix : Text). then_ (begun (overrides_of (look_of the_stage) t params) prefix t d) to-come)
          (prefix-below pins modules apart opens o marks kept f fs d h x names shows part)

      -- its parameters or declarations are refused
      pub not-begun : (S : Type 0) (v : Visit) (e : Stop) (kept' : table.Design) → Begins {S = S} pins entry (Err e) kept' → Goes wires_only pins modules (next_of wires_only (map module_of modules) f fs d the_item) (Err e) v
      not-begun S v (Refused q) kept' b = next-is ∙ ap (λ (r : Outcome Stage). then_ r to-come) b
      not-begun S v Memory kept' b = tt

      module _ (s : Stage) (is : entry ≡ good s) (fit : IsFit (look_of s)) where
        abbrev links : List Link
        links = links_of (look_of the_stage) t ports

        begins : next_of wires_only (map module_of modules) f fs d the_item ≡ to-come s
        begins = next-is ∙ ap (λ (r : Outcome Stage). then_ r to-come) is

        -- its module is entered, or refused by a start value in its header
        pub goes-in : (inner : Table) (given : Given) (old v : Visit) (r : Result (Unit {0}) Stop) → map leaning_in given.params.items ++ map leaning_in given.ports.items ≡ leaning_of (look_of the_stage) t params ports → given.place ≡ Some p
            → old.open.items ≡ renamed → old.is_open.items ≡ marks → Enters pins number inner given old (header_values t (connected links s)) r v
            → Goes wires_only pins modules (next_of wires_only (map module_of modules) f fs d the_item) r v
        unfolding to-come
        goes-in inner given old v (Err Memory) leans at stack same e = tt
        goes-in inner given old v (Err (Refused q)) leans at stack same e =
            begins ∙ ap (λ (y : Outcome Stage). then_ y (λ (u : Stage). rest_of wires_only (map module_of modules)
            (record { tree = t; names = u.names; items = t.items; prefix = f.prefix ++ printed_part x ++ codes "."; depth = f.depth - 1; given = leaning_of (look_of the_stage) t params ports; place = Some p } ∷ record f { names = f.names ++ ((x, no_value) ∷ []) } ∷ fs) u.design)) e
        goes-in inner given old v (Ok u) leans at stack same e =
            let w = e.0 in
            let looks = values-look t.place (connected links s) (header_decls t) w e.1 in
            let more : length d.entries ≤ length w.design.entries =
            subst (λ (c : ℕ). length d.entries ≤ c) (sym (ap (λ (l : Look). length l.entries) looks ∙ connected-count s.names s.design links)) (begun-more (overrides_of (look_of the_stage) t params) t (prefix_of modules renamed) d s is) in
            let inside = entered pins modules apart opens o marks kept f fs d h x names shows part number k found.at inner v.design w e.2
            (still-fit (connected links s) w looks (connected-fit links s fit)) more (f.depth - 1) deep found.new given (leaning_of (look_of the_stage) t params ports) p leans at in
            let frame : Frame = record { tree = t; names = w.names; items = t.items; prefix = f.prefix ++ printed_part x ++ codes "."; depth = f.depth - 1; given = leaning_of (look_of the_stage) t params ports; place = Some p } in
            let around : Frame = record f { names = f.names ++ ((x, no_value) ∷ []) } in
            let opened : Open = record { «module» = number; names = inner; next = 0; given = given } in (
              frame ∷ around ∷ fs,
              w.design,
              begins ∙ ap (λ (y : Outcome Stage). then_ y (λ (u : Stage). rest_of wires_only (map module_of modules)
                  (record { tree = t; names = u.names; items = t.items; prefix = f.prefix ++ printed_part x ++ codes "."; depth = f.depth - 1; given = leaning_of (look_of the_stage) t params ports; place = Some p } ∷ around ∷ fs) u.design)) e.1,
              subst (λ (os : List Open). IsVisiting pins modules os v.is_open.items v.design (frame ∷ around ∷ fs) w.design) (sym (e.3 ∙ ap (λ (os : List Open). os ++ opened ∷ []) stack))
                  (subst (λ (ms : List Bool). IsVisiting pins modules (renamed ++ opened ∷ []) ms v.design (frame ∷ around ∷ fs) w.design) (sym (e.4 ∙ ap (λ (ms : List Bool). slice_set ms number true) same)) inside),
            )

-- ---- the visit of all that is open

module _ (wires_only : Bool) (pins : List ResetPin) (modules : List Module) (o : Outcome Design) (v : Visit) (h : Goes wires_only pins modules o (Ok tt) v) where
  pub goes-further : (w : Visit) → Goes wires_only pins modules (rest_of wires_only (map module_of modules) h.0 h.1) (Ok tt) w → Goes wires_only pins modules o (Ok tt) w
  goes-further w g = (g.0, g.1, h.2 ∙ g.2, g.3)

  pub all-done : (w : Visit) → h.0 ≡ [] → IsGrown pins w.design h.1 → Ends (IsGrown pins w.design) o (Ok tt)
  all-done w none g = (h.1, h.2 ∙ ap (λ (fs : List Frame). rest_of wires_only (map module_of modules) fs h.1) none, g)

  pub stops : (w : Visit) (e : Stop) (P : Design → Type 0) → Goes wires_only pins modules (rest_of wires_only (map module_of modules) h.0 h.1) (Err e) w → Ends P o (Err e)
  stops w (Refused f) P g = h.2 ∙ g
  stops w Memory P g = tt

-- the stage of the innermost module
pub stage-shown : (pins : List ResetPin) (modules : List Module) (apart : AreNamedApart modules) (opens : List Open) (o : Open) (marks : List Bool) (kept : table.Design) (f : Frame) (fs : List Frame) (d : Design)
    → IsVisiting pins modules (opens ++ o ∷ []) marks kept (f ∷ fs) d → ShowsStage pins o.names kept (record { names = f.names; design = d }) × IsFit (look_of (record { names = f.names; design = d }))
stage-shown pins modules apart opens o marks kept f fs d h =
    (record { names = (here pins modules apart opens o marks kept f fs d h).0.names; design = h.design }, fit-stage f.names d (All-head (λ (g : Frame). AreFitNames g.names (length d.entries)) f fs h.names) h.fit)
