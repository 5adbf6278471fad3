-- The parameters and declarations of a module that are left, as they are walked.
use Rattle.std.proofs.Common.{◌≡◌, ℕ, ◌+◌, ◌<◌, ◌≤◌, true, false, List, [], ◌∷◌, ◌++◌, length, map, drop, get_or, Some, None, refl, sym, ap, ◌∙◌}
use Rattle.std.specs.Prelude.{flat_map, filter_map, All}
use Rattle.std.proofs.lemmas.List.{at_drop_more, at_drop_all}
use Rattle.std.proofs.lemmas.List.Elements.{All-head, All-tail, All-cons, All-nil, All-append}
use Rattle.cdc_base.specs.declared.fault.Place.{Place}
use Rattle.verilog_ast.specs.declared.ParamDecl.{ParamDecl}
use Rattle.verilog_ast.specs.declared.Decl.{Decl}
use Rattle.verilog_ast.specs.declared.Port.{Port}
use Rattle.verilog_ast.specs.declared.Item.{Item}
use Rattle.verilog_ast.specs.declared.ItemBody.{ItemBody}
use Rattle.verilog_ast.specs.declared.ItemBody.TheVariants as body
use Rattle.verilog_ast.specs.declared.Module.{Module}
use Rattle.verilog_reading.specs.SourceTree.{ParamTree, param_of, DeclTree, decl_of, PortTree, port_of, item_of, module_of}
use Rattle.flat_unfolding.specs.Outcome.{Text}
use Rattle.flat_unfolding.specs.Parameters.{param_in}
use Rattle.flat_unfolding.specs.Declarations.{Site, header_of, decl_in, header_decls, item_decls, sites}
use Rattle.flat_unfolding.specs.Formed.{IsParamFormed, IsDeclFormed, IsModuleFormed}
use Rattle.flat_unfolding.proofs.Formed.{inner_formed, header_formed, items_formed}

-- ---- parameters

abbrev pub params_left : Module → ℕ → List (Place × ParamTree)
params_left m i = map (λ q. (m.place, q)) (map param_of (drop i m.params)) ++ flat_map param_in (map item_of m.items)

abbrev pub inner_left : Module → ℕ → List (Place × ParamTree)
inner_left m i = flat_map param_in (map item_of (drop i m.items))

pub params-next : (m : Module) (i : ℕ) (x : ParamDecl) → i < length m.params → x ≡ get_or m.params i x → params_left m i ≡ (m.place, param_of x) ∷ params_left m (i + 1)
params-next m i x l e =
    let rest : List ParamDecl → List (Place × ParamTree) = λ ys. map (λ q. (m.place, q)) (map param_of ys) ++ flat_map param_in (map item_of m.items) in
    at_drop_more rest m.params i x l ∙ ap (λ y. (m.place, param_of y) ∷ params_left m (i + 1)) (sym e)

pub params-done : (m : Module) (i : ℕ) → length m.params ≤ i → params_left m i ≡ inner_left m 0
params-done m i l = at_drop_all (λ ys. map (λ q. (m.place, q)) (map param_of ys) ++ flat_map param_in (map item_of m.items)) m.params i l

pub inner-next : (m : Module) (i : ℕ) (x : Item) → i < length m.items → x ≡ get_or m.items i x → inner_left m i ≡ param_in (item_of x) ++ inner_left m (i + 1)
inner-next m i x l e =
    at_drop_more (λ ys. flat_map param_in (map item_of ys)) m.items i x l ∙ ap (λ y. param_in (item_of y) ++ inner_left m (i + 1)) (sym e)

pub inner-done : (m : Module) (i : ℕ) → length m.items ≤ i → inner_left m i ≡ []
inner-done m i l = at_drop_all (λ ys. flat_map param_in (map item_of ys)) m.items i l

pub a-param : (x : Item) (q : ParamDecl) → x.body ≡ body.Param q → param_in (item_of x) ≡ (x.place, param_of q) ∷ []
a-param x q e = ap (λ b. param_in (item_of (record { place = x.place; body = b }))) e

pub no-param : (x : Item) → ((q : ParamDecl) → x.body ≡ body.Param q → ⊥) → param_in (item_of x) ≡ []
no-param x h = go x.body refl
  where
    go : (b : ItemBody) → x.body ≡ b → param_in (item_of (record { place = x.place; body = b })) ≡ []
    go (body.Param q) e = absurd (h q e)
    go (body.Decl d) e = refl
    go (body.Assign t v) e = refl
    go (body.Gate k ts) e = refl
    go (body.Instance c ps n cs) e = refl
    go (body.Always v s) e = refl
    go (body.Initial s) e = refl

pub all-inner : (m : Module) → IsModuleFormed (module_of m) → All (λ (q : Place × ParamTree). IsParamFormed q.1) (inner_left m 0)
all-inner m h = inner_formed (map item_of m.items) h.items

-- ---- declarations

module _ (prefix : Text) (m : Module) where
  abbrev pub in_header : DeclTree → Site × DeclTree
  in_header x = (record { prefix = prefix; header = header_of (module_of m); in_header = true; place = m.place }, x)

  abbrev pub inside : Place × DeclTree → Site × DeclTree
  inside q = (record { prefix = prefix; header = header_of (module_of m); in_header = false; place = q.0 }, q.1)

  abbrev inner_of : List Item → List (Site × DeclTree)
  inner_of items = map inside (flat_map decl_in (map item_of items))

  abbrev header_left : List Port → List (Site × DeclTree)
  header_left ports = map in_header (filter_map (λ (p : PortTree). p.decl) (map port_of ports))

  abbrev pub inner_sites : ℕ → List (Site × DeclTree)
  inner_sites i = inner_of (drop i m.items)

  abbrev pub sites_left : ℕ → List (Site × DeclTree)
  sites_left i = header_left (drop i m.ports) ++ inner_of m.items

  pub site-next : (i : ℕ) (x : Port) (d : Decl) → i < length m.ports → x ≡ get_or m.ports i x → x.decl ≡ Some d → sites_left i ≡ in_header (decl_of d) ∷ sites_left (i + 1)
  site-next i x d l e k =
      at_drop_more (λ ps. header_left ps ++ inner_of m.items) m.ports i x l
      ∙ ap (λ y. header_left (y ∷ drop (i + 1) m.ports) ++ inner_of m.items) (sym e)
      ∙ ap (λ o. header_left (record { name = x.name; decl = o } ∷ drop (i + 1) m.ports) ++ inner_of m.items) k

  pub site-skip : (i : ℕ) (x : Port) → i < length m.ports → x ≡ get_or m.ports i x → x.decl ≡ None → sites_left i ≡ sites_left (i + 1)
  site-skip i x l e k =
      at_drop_more (λ ps. header_left ps ++ inner_of m.items) m.ports i x l
      ∙ ap (λ y. header_left (y ∷ drop (i + 1) m.ports) ++ inner_of m.items) (sym e)
      ∙ ap (λ o. header_left (record { name = x.name; decl = o } ∷ drop (i + 1) m.ports) ++ inner_of m.items) k

  pub sites-done : (i : ℕ) → length m.ports ≤ i → sites_left i ≡ inner_sites 0
  sites-done i l = at_drop_all (λ ps. header_left ps ++ inner_of m.items) m.ports i l

  pub inner-site : (i : ℕ) (x : Item) (d : Decl) → i < length m.items → x ≡ get_or m.items i x → x.body ≡ body.Decl d → inner_sites i ≡ inside (x.place, decl_of d) ∷ inner_sites (i + 1)
  inner-site i x d l e k =
      at_drop_more inner_of m.items i x l ∙ ap (λ y. inner_of (y ∷ drop (i + 1) m.items)) (sym e)
      ∙ ap (λ b. inner_of (record { place = x.place; body = b } ∷ drop (i + 1) m.items)) k

  pub inner-skip : (i : ℕ) (x : Item) → i < length m.items → x ≡ get_or m.items i x → ((d : Decl) → x.body ≡ body.Decl d → ⊥) → inner_sites i ≡ inner_sites (i + 1)
  inner-skip i x l e h = at_drop_more inner_of m.items i x l ∙ ap (λ y. inner_of (y ∷ drop (i + 1) m.items)) (sym e) ∙ go x.body refl
    where
      go : (b : ItemBody) → x.body ≡ b → inner_of (record { place = x.place; body = b } ∷ drop (i + 1) m.items) ≡ inner_of (drop (i + 1) m.items)
      go (body.Decl d) k = absurd (h d k)
      go (body.Param q) k = refl
      go (body.Assign t v) k = refl
      go (body.Gate g ts) k = refl
      go (body.Instance c ps n cs) k = refl
      go (body.Always v s) k = refl
      go (body.Initial s) k = refl

  pub inner-sites-done : (i : ℕ) → length m.items ≤ i → inner_sites i ≡ []
  inner-sites-done i l = at_drop_all inner_of m.items i l

  abbrev IsSiteFormed : Site × DeclTree → Type 0
  IsSiteFormed q = IsDeclFormed q.1

  all-header : (ds : List DeclTree) → All IsDeclFormed ds → All IsSiteFormed (map in_header ds)
  all-header [] h = All-nil IsSiteFormed
  all-header (d ∷ ds) h = All-cons IsSiteFormed (in_header d) (map in_header ds) (All-head IsDeclFormed d ds h) (all-header ds (All-tail IsDeclFormed d ds h))

  all-inside : (qs : List (Place × DeclTree)) → All (λ (q : Place × DeclTree). IsDeclFormed q.1) qs → All IsSiteFormed (map inside qs)
  all-inside [] h = All-nil IsSiteFormed
  all-inside (q ∷ qs) h =
      All-cons IsSiteFormed (inside q) (map inside qs) (All-head (λ (q : Place × DeclTree). IsDeclFormed q.1) q qs h) (all-inside qs (All-tail (λ (q : Place × DeclTree). IsDeclFormed q.1) q qs h))

  pub all-sites : IsModuleFormed (module_of m) → All (λ (q : Site × DeclTree). IsDeclFormed q.1) (sites prefix (module_of m))
  all-sites h =
      All-append IsSiteFormed (map in_header (header_decls (module_of m))) (map inside (item_decls (module_of m))) (all-header (header_decls (module_of m)) (header_formed (map port_of m.ports) h.ports))
      (all-inside (item_decls (module_of m)) (items_formed (map item_of m.items) h.items))

  pub all-inner-sites : IsModuleFormed (module_of m) → All (λ (q : Site × DeclTree). IsDeclFormed q.1) (inner_sites 0)
  all-inner-sites h = all-inside (item_decls (module_of m)) (items_formed (map item_of m.items) h.items)
