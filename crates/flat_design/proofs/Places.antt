-- The places of ports among the names of a header.
use Rattle.std.proofs.Common.{◌≡◌, ◌==◌, ℕ, zero, suc, ◌<◌, Bool, true, false, cond, List, [], ◌∷◌, length, map, Option, Some, None, refl, sym, ap, subst, ◌∙◌, rules, arith, bytes_eq, get_or, nat_lt, ltb-true, ltb-false, Bor, IfSome}
use Rattle.std.specs.Prelude.{is_some, slice_get, option_map, option_copied}
use Rattle.std.specs.Cmp.Lexicographic.{pointwise}
use Rattle.std.specs.Map.{keys_of}
use Rattle.std.proofs.lemmas.List.{length-map}
use Rattle.std.proofs.lemmas.List.Quantifiers.{position-Some}
use Rattle.std.proofs.lemmas.Option.{slice_get_read, slice_get_past}
use Rattle.std.proofs.lemmas.Slice.Eq.{bytes_eq-Decides}
use Rattle.indexmap.specs.IndexMap.{IndexMap, index_of_by}
use Rattle.cdc_base.specs.Words.{is_in}
use Rattle.verilog_ast.specs.declared.Port.{Port}
use Rattle.verilog_reading.specs.SourceTree.{PortTree, ModuleTree, port_of}
use Rattle.flat_unfolding.specs.Outcome.{Text}
use Rattle.flat_unfolding.specs.Declarations.{header_of}
use Rattle.flat_unfolding.specs.Instances.{port_direction, if_among}
use Rattle.flat_unfolding.proofs.Steps.{some_is}
use Rattle.flat_design.specs.Visiting.{port_in, side_of, ShowsPorts, name_at, IsPlace, side_named}

-- ---- where a name stands

pub name-same : {S : Type 0} (ports : IndexMap Text (Option Bool) S) (k : ℕ) (x y : Text) (d : Option Bool) → Some (y, d) ≡ slice_get ports.entries k → name_at ports k ≡ Some x → y ≡ x
name-same ports k x y d e n = some_is y x (ap (option_map (λ (q : Text × Option Bool). q.0)) e ∙ n)

named-at : (es : List (Text × Option Bool)) (k : ℕ) (x : Text) → k < length (keys_of es) → bytes_eq x (get_or (keys_of es) k []) ≡ true → option_map (λ (p : Text × Option Bool). p.0) (slice_get es k) ≡ Some x
named-at [] k x l e = absurd (omega arith)
named-at (p ∷ es) zero x l e = ap Some (sym ((bytes_eq-Decides x p.0).0 e))
named-at (p ∷ es) (suc k) x l e = named-at es k x (omega arith) e

if-in : {A : Type 0} (b : Bool) (a c : A) → cond b (Some a) None ≡ Some c → b ≡ true
if-in true a c e = refl
if-in false a c e = absurd (search (rules, e))

module _ {S : Type 0} (ports : IndexMap Text (Option Bool) S) (m : ModuleTree) (h : ShowsPorts ports m) where
  pub known : (x : Text) → is_some (port_in ports x) ≡ is_in (header_of m) x
  known x = ap is_some (h.kept x) ∙ go (is_in (header_of m) x)
    where
      go : (b : Bool) → is_some (cond b (Some (side_of (port_direction m x))) None) ≡ b
      go true = refl
      go false = refl

  -- a name's place, where it is a port's
  pub place-named : (x : Text) (r : Option ℕ) → r ≡ index_of_by (pointwise ◌==◌ x) ports → is_some r ≡ is_some (port_in ports x) → IsPlace ports r (if_among (header_of m) x)
  place-named x r i s = go r i (s ∙ known x)
    where
      go : (r : Option ℕ) → r ≡ index_of_by (pointwise ◌==◌ x) ports → is_some r ≡ is_in (header_of m) x → IsPlace ports r (if_among (header_of m) x)
      go None i s = subst (λ b. IsPlace ports None (cond b (Some x) None)) s tt
      go (Some k) i s =
          let p = position-Some (pointwise ◌==◌ x) (keys_of ports.entries) k [] (sym i) in
          subst (λ b. IsPlace ports (Some k) (cond b (Some x) None)) s (named-at ports.entries k x p.0 p.1)

  -- the side of the port at a place
  pub place-side : (k : ℕ) (x : Option Text) (y : Text) (d : Option Bool) → IsPlace ports (Some k) x → Some (y, d) ≡ slice_get ports.entries k → port_in ports y ≡ Some d → side_named m x ≡ d
  place-side k None y d p e f = absurd p
  place-side k (Some x) y d p e f =
      let same = name-same ports k x y d e p in
      let g : cond (is_in (header_of m) x) (Some (side_of (port_direction m x))) None ≡ Some d = sym (h.kept x) ∙ ap (port_in ports) (sym same) ∙ f in
      some_is (side_of (port_direction m x)) d (ap (λ b. cond b (Some (side_of (port_direction m x))) None) (sym (if-in (is_in (header_of m) x) (side_of (port_direction m x)) d g)) ∙ g)

-- ---- names of a header by their order

in-at : (xs : List Text) (k : ℕ) (x : Text) → slice_get xs k ≡ Some x → is_in xs x ≡ true
in-at [] k x e = absurd (search (rules, e))
in-at (y ∷ xs) zero x e = ap (λ b. cond b true (is_in xs x)) ((bytes_eq-Decides y x).1 (some_is y x e))
in-at (y ∷ xs) (suc k) x e = go (bytes_eq y x) (in-at xs k x e)
  where
    go : (b : Bool) → is_in xs x ≡ true → cond b true (is_in xs x) ≡ true
    go true h = refl
    go false h = h

header-at : (m : ModuleTree) (header : List Port) (k : ℕ) → m.ports ≡ map port_of header → slice_get (header_of m) k ≡ option_map (λ (p : Port). p.name) (slice_get header k)
header-at m header k e = ap (λ ps. slice_get (map (λ (p : PortTree). p.name) ps) k) e ∙ names header k
  where
    names : (ps : List Port) (k : ℕ) → slice_get (map (λ (p : PortTree). p.name) (map port_of ps)) k ≡ option_map (λ (p : Port). p.name) (slice_get ps k)
    names [] k = refl
    names (p ∷ ps) zero = refl
    names (p ∷ ps) (suc k) = names ps k

module _ {S : Type 0} (ports : IndexMap Text (Option Bool) S) (m : ModuleTree) (h : ShowsPorts ports m) (header : List Port) (k : ℕ) (e : m.ports ≡ map port_of header) where
  pub place-none : None ≡ slice_get header k → IsPlace ports None (slice_get (header_of m) k)
  place-none f = subst (IsPlace ports None) (sym (header-at m header k e ∙ ap (option_map (λ (p : Port). p.name)) (sym f))) tt

  pub place-at : (p : Port) (r : Option ℕ) → Some p ≡ slice_get header k → r ≡ index_of_by (pointwise ◌==◌ p.name) ports → is_some r ≡ is_some (port_in ports p.name) → IsPlace ports r (slice_get (header_of m) k)
  place-at p r f i s =
      let at : slice_get (header_of m) k ≡ Some p.name = header-at m header k e ∙ ap (option_map (λ (q : Port). q.name)) (sym f) in
      subst (IsPlace ports r) (sym at) (subst (λ b. IsPlace ports r (cond b (Some p.name) None)) (in-at (header_of m) k p.name at) (place-named ports m h p.name r i s))

-- ---- what is read from a slice

pub copied-at : {A : Type 0} (xs : List A) (k : ℕ) (r : Option (Bor A)) → is_some r ≡ nat_lt k (length xs) → IfSome r (λ x. x.now ≡ get_or xs k x.now) → option_copied r ≡ slice_get xs k
copied-at xs k None e h = sym (slice_get_past xs k (ltb-false k (length xs) (sym e)))
copied-at xs k (Some x) e h = sym (slice_get_read xs (length xs) k x.now refl (ltb-true k (length xs) (sym e)) h)

pub header-count : (m : ModuleTree) (header : List Port) → m.ports ≡ map port_of header → length header ≡ length (header_of m)
header-count m header e = sym (length-map m.ports (λ (p : PortTree). p.name) ∙ ap length e ∙ length-map header port_of)
