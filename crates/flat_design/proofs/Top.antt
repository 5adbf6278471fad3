-- The visit of the top.
use Rattle.std.proofs.Common.{◌≡◌, ℕ, zero, suc, ◌+◌, ◌-◌, ◌^◌, ◌<◌, ◌≤◌, Bool, true, false, List, [], ◌∷◌, ◌++◌, length, map, Some, None, Ok, Err, refl, sym, ap, subst, ◌∙◌, arith, rules}
use Rattle.std.specs.Prelude.{slice_get, slice_set, option_map}
use Rattle.indexmap.specs.IndexMap.{IndexMap}
use Rattle.std.proofs.lemmas.Option.{slice_get_within}
use Rattle.std.proofs.lemmas.List.Elements.{All-cons, All-nil}
use Rattle.cdc_base.specs.declared.signal.ResetPin.{ResetPin}
use Rattle.cdc_base.specs.declared.fault.Stop.{Stop}
use Rattle.cdc_base.specs.declared.fault.Stop.TheVariants.{Refused, Memory}
use Rattle.verilog_ast.specs.declared.Module.{Module}
use Rattle.verilog_reading.specs.SourceTree.{ModuleTree, module_of}
use Rattle.flat_unfolding.specs.Outcome.{Text, Outcome, good, then_}
use Rattle.flat_unfolding.specs.Declarations.{header_of, header_decls}
use Rattle.flat_unfolding.specs.Design.{Design, Stage, look_of, no_design}
use Rattle.flat_unfolding.specs.Unfolding.{header_values, top_ports}
use Rattle.flat_names.specs.declared.design.Design as table
use Rattle.flat_names.specs.Looks.{IsFit}
use Rattle.flat_names.specs.Designs.{Ends}
use Rattle.flat_declarations.specs.declared.parameter.Override.{Override}
use Rattle.flat_declarations.specs.Declaring.{override_of, given_in, IsGivenSized, ShowsOverrides, AreFitOverrides}
use Rattle.flat_design.specs.declared.instance.Given.{Given}
use Rattle.flat_design.specs.declared.visit.Open.{Open}
use Rattle.flat_design.specs.declared.visit.Visit.{Visit}
use Rattle.flat_design.specs.Chosen.{chosen_visit}
use Rattle.flat_design.specs.Visiting.{Frame, leaning_in, rest_of, AreMarked, AreFitNames, IsFitDesign, IsVisiting, Goes, begun, Begins, Table, Enters}
use Rattle.flat_design.proofs.Fits.{names-fit, design-fit, still-fit, values-look, top-fit}
use Rattle.flat_design.proofs.Stacks.{AreNamedApart, mark-entered}
use Rattle.flat_design.proofs.Visits.{visit-is}

-- no module is visited at first
none-visited : (modules : List Module) → AreMarked modules (map (λ (q : Module). false) modules) []
none-visited [] j q e = absurd (search (rules, e))
none-visited (m ∷ modules) zero q e = ((let l : 0 < suc (length (map (λ (z : Module). false) modules)) = omega arith in l), refl)
none-visited (m ∷ modules) (suc j) q e = let h = none-visited modules j q e in let k = h.0 in ((let l : suc j < suc (length (map (λ (z : Module). false) modules)) = omega arith in l), h.1)

module _ (wires_only : Bool) (pins : List ResetPin) (modules : List Module) (apart : AreNamedApart modules) (top : ℕ) (m : Module) (at : slice_get modules top ≡ Some m) where
  abbrev t : ModuleTree
  t = module_of m

  abbrev pub top_begun : Outcome Stage
  top_begun = begun [] [] t (no_design pins)

  abbrev pub top_visit : Outcome Design
  top_visit = then_ (chosen_visit wires_only (map module_of modules) (length modules) [] (m.name ∷ []) t [] (top_ports (header_of t)) (no_design pins)) (λ (s : Stage). good s.design)

  abbrev depth : ℕ
  depth = length modules - 1

  to-come : Stage → Outcome Design
  to-come s = then_ (header_values t (top_ports (header_of t) s)) (λ (u : Stage). rest_of wires_only (map module_of modules) (record { tree = t; names = u.names; items = t.items; prefix = []; depth = depth; given = []; place = None } ∷ []) u.design)

  deep : length modules ≡ suc depth
  deep = let l = slice_get_within modules top m at in omega (arith, l)

  top-is : top_visit ≡ then_ top_begun to-come
  unfolding to-come
  top-is =
      ap (λ (k : ℕ). then_ (chosen_visit wires_only (map module_of modules) k [] (m.name ∷ []) t [] (top_ports (header_of t)) (no_design pins)) (λ (s : Stage). good s.design)) deep
      ∙ visit-is wires_only (map module_of modules) depth [] (m.name ∷ []) t [] (top_ports (header_of t)) (no_design pins) (λ (s : Stage). good s.design)

  pub top-not-begun : (S : Type 0) (e : Stop) (kept : table.Design) (P : Design → Type 0) → Begins {S = S} pins top_begun (Err e) kept → Ends P top_visit (Err e)
  top-not-begun S (Refused f) kept P b = top-is ∙ ap (λ (o : Outcome Stage). then_ o to-come) b
  top-not-begun S Memory kept P b = tt

  module _ (s : Stage) (is : top_begun ≡ good s) (fit : IsFit (look_of s)) where
    begins : top_visit ≡ to-come s
    begins = top-is ∙ ap (λ (o : Outcome Stage). then_ o to-come) is

    -- refused by a start value in its header
    pub top-refused : (inner : Table) (given : Given) (old v : Visit) (e : Stop) (P : Design → Type 0) → Enters pins top inner given old (header_values t (top_ports (header_of t) s)) (Err e) v → Ends P top_visit (Err e)
    unfolding to-come
    top-refused inner given old v (Refused f) P h = begins ∙ ap (λ (o : Outcome Stage). then_ o (λ (u : Stage). rest_of wires_only (map module_of modules) (record { tree = t; names = u.names; items = t.items; prefix = []; depth = depth; given = []; place = None } ∷ []) u.design)) h
    top-refused inner given old v Memory P h = tt

    pub top-entered : (inner : Table) (given : Given) (old v : Visit) → map leaning_in given.params.items ++ map leaning_in given.ports.items ≡ [] → given.place ≡ None → old.open.items ≡ [] → old.is_open.items ≡ map (λ (q : Module). false) modules
        → Enters pins top inner given old (header_values t (top_ports (header_of t) s)) (Ok tt) v → Goes wires_only pins modules top_visit (Ok tt) v
    unfolding to-come
    top-entered inner given old v leans place none marks h =
        let w = h.0 in
        let frame : Frame = record { tree = t; names = w.names; items = t.items; prefix = []; depth = depth; given = []; place = None } in
        let opened : Open = record { «module» = top; names = inner; next = 0; given = given } in
        let looks = values-look t.place (top_ports (header_of t) s) (header_decls t) w h.1 in
        let well = still-fit (top_ports (header_of t) s) w looks (top-fit (header_of t) s fit) in
        let d = deep in
        let visiting : IsVisiting pins modules (opened ∷ []) (slice_set (map (λ (q : Module). false) modules) top true) v.design (frame ∷ []) w.design = record {
          frames_are = ([], opened, refl, record { tree = m; found = at; is = refl; items = refl; names = h.2.names; given = leans; place = place }, refl, refl);
          marks_are = mark-entered modules apart (map (λ (q : Module). false) modules) top m at [] (none-visited modules);
          design = h.2.design;
          fit = design-fit w well;
          names = All-cons (λ (g : Frame). AreFitNames g.names (length w.design.entries)) frame [] (names-fit w well) (All-nil (λ (g : Frame). AreFitNames g.names (length w.design.entries)));
          bounded = ((let e : depth + 1 ≡ length modules = omega (arith, d) in e), tt);
          different = (refl, tt);
        } in (
          frame ∷ [],
          w.design,
          begins ∙ ap (λ (o : Outcome Stage). then_ o (λ (u : Stage). rest_of wires_only (map module_of modules) (record { tree = t; names = u.names; items = t.items; prefix = []; depth = depth; given = []; place = None } ∷ []) u.design)) h.1,
          subst (λ (os : List Open). IsVisiting pins modules os v.is_open.items v.design (frame ∷ []) w.design) (sym (h.3 ∙ ap (λ (os : List Open). os ++ opened ∷ []) none))
              (subst (λ (ms : List Bool). IsVisiting pins modules (opened ∷ []) ms v.design (frame ∷ []) w.design) (sym (h.4 ∙ ap (λ (ms : List Bool). slice_set ms top true) marks)) visiting),
        )

-- ---- the top has no overrides, and nothing before it

pub no-overrides : {S : Type 0} (given : IndexMap Text Override S) → ((x : Text) → given_in given x ≡ None) → ShowsOverrides given []
no-overrides given h = record { found = λ x. ap (option_map override_of) (h x); sized = λ x. subst IsGivenSized (sym (h x)) tt }

pub no-overrides-fit : AreFitOverrides []
no-overrides-fit x o e = absurd (search (rules, e))

pub nothing-fit : (pins : List ResetPin) → IsFitDesign (no_design pins)
nothing-fit pins = record { entries = λ s a e. absurd (search (rules, e)); few = let l : 0 ≤ 2 ^ 32 = omega arith in l }
