-- Modules by name, as far as they were read.
use Rattle.std.proofs.Common.{◌≡◌, ◌==◌, ℕ, suc, ◌<◌, Bool, true, false, cond, List, [], ◌∷◌, map, drop, Option, Some, None, refl, sym, ap, ◌∙◌, arith, rules, bytes_eq, nat_lt, ltb-true, ltb-false}
use Rattle.std.specs.Prelude.{Result, Ok, Err, slice_get, is_some, is_ok, OnOk}
use Rattle.std.specs.Cmp.Lexicographic.{pointwise}
use Rattle.std.proofs.lemmas.Slice.Eq.{bytes_eq-Decides}
use Rattle.indexmap.specs.IndexMap.{IndexMap, get_by}
use Rattle.cdc_base.specs.Words.{is_in}
use Rattle.verilog_ast.specs.declared.Module.{Module}
use Rattle.verilog_reading.specs.SourceTree.{module_of}
use Rattle.cdc_base.specs.declared.fault.Fault.{Fault}
use Rattle.cdc_base.specs.declared.fault.Stop.{Stop}
use Rattle.cdc_base.specs.declared.fault.Stop.TheVariants.{Refused, Memory}
use Rattle.flat_unfolding.specs.Outcome.{Text, good, bad, refused}
use Rattle.flat_names.specs.Noting.{Refuses}
use Rattle.flat_design.specs.declared.visit.Library.{Library}
use Rattle.flat_unfolding.specs.Unfolding.{module_named, module_twice, modules_differ}
use Rattle.flat_unfolding.proofs.Steps.{some_is}
use Rattle.flat_design.specs.Visiting.{IsNumber, IsLibrary, Lists}

abbrev pub number_in : {S : Type 0} → IndexMap Text ℕ S → Text → Option ℕ
number_in table x = get_by (pointwise ◌==◌ x) table

pub record ReadSoFar {S : Type 0} (modules : List Module) (number : ℕ) (table : IndexMap Text ℕ S) : Type 0 where
  pub before : List Text
  pub has : (x : Text) → is_in before x ≡ is_some (number_in table x)
  pub trial : module_twice [] (map module_of modules) ≡ module_twice before (map module_of (drop number modules))
  pub found : (x : Text) (k : ℕ) → number_in table x ≡ Some k → (m : Module) × (slice_get modules k ≡ Some m) × (m.name ≡ x) × (module_named x (map module_of modules) ≡ Some (module_of m))
  pub missing : (x : Text) → number_in table x ≡ None → module_named x (map module_of modules) ≡ module_named x (map module_of (drop number modules))
  pub numbered : (k : ℕ) (m : Module) → k < number → slice_get modules k ≡ Some m → number_in table m.name ≡ Some k

pub read-none : {S : Type 0} (modules : List Module) (table : IndexMap Text ℕ S) → ((x : Text) → number_in table x ≡ None) → ReadSoFar modules 0 table
read-none modules table h = record {
  before = [];
  has = λ x. sym (ap is_some (h x));
  trial = refl;
  found = λ x k e. absurd (let f = sym (h x) ∙ e in search (rules, f));
  missing = λ x e. refl;
  numbered = λ k m l e. absurd (let n = l in omega arith);
}

module _ {S : Type 0} (modules : List Module) (number : ℕ) (m : Module) (rest : List Module) (old : IndexMap Text ℕ S) (h : ReadSoFar modules number old) (next : drop number modules ≡ m ∷ rest) where
  pub read-twice : is_some (number_in old m.name) ≡ true → modules_differ (map module_of modules) ≡ refused 304 (Some m.place) m.name
  read-twice e = told (h.trial ∙ ap (λ (ms : List Module). module_twice h.before (map module_of ms)) next
      ∙ ap (λ b. cond b (Some (module_of m)) (module_twice (m.name ∷ h.before) (map module_of rest))) (h.has m.name ∙ e))
    where
      told : module_twice [] (map module_of modules) ≡ Some (module_of m) → modules_differ (map module_of modules) ≡ refused 304 (Some m.place) m.name
      told t = rw t

  module _ (new : IndexMap Text ℕ S) (at : slice_get modules number ≡ Some m) (left : rest ≡ drop (suc number) modules) (fresh : is_some (number_in old m.name) ≡ false)
      (set : (x : Text) → number_in new x ≡ cond (pointwise ◌==◌ m.name x) (Some number) (number_in old x)) where
    not-there : number_in old m.name ≡ None
    not-there = go (number_in old m.name) fresh
      where
        go : (o : Option ℕ) → is_some o ≡ false → o ≡ None
        go None e = refl
        go (Some k) e = absurd (search (rules, e))

    has : (x : Text) → is_in (m.name ∷ h.before) x ≡ is_some (number_in new x)
    has x = go (bytes_eq m.name x) ∙ sym (ap is_some (set x))
      where
        go : (b : Bool) → cond b true (is_in h.before x) ≡ is_some (cond b (Some number) (number_in old x))
        go true = refl
        go false = h.has x

    found : (x : Text) (k : ℕ) → number_in new x ≡ Some k → (q : Module) × (slice_get modules k ≡ Some q) × (q.name ≡ x) × (module_named x (map module_of modules) ≡ Some (module_of q))
    found x k e = go (bytes_eq m.name x) refl (sym (set x) ∙ e)
      where
        go : (b : Bool) → bytes_eq m.name x ≡ b → cond b (Some number) (number_in old x) ≡ Some k → (q : Module) × (slice_get modules k ≡ Some q) × (q.name ≡ x) × (module_named x (map module_of modules) ≡ Some (module_of q))
        go true d f =
            let same = (bytes_eq-Decides m.name x).0 d in (
              m,
              ap (slice_get modules) (sym (some_is number k f)) ∙ at,
              same,
              h.missing x (ap (number_in old) (sym same) ∙ not-there) ∙ ap (λ (ms : List Module). module_named x (map module_of ms)) next ∙ ap (λ b. cond b (Some (module_of m)) (module_named x (map module_of rest))) d,
            )
        go false d f = h.found x k f

    missing : (x : Text) → number_in new x ≡ None → module_named x (map module_of modules) ≡ module_named x (map module_of (drop (suc number) modules))
    missing x e = go (bytes_eq m.name x) refl (sym (set x) ∙ e)
      where
        go : (b : Bool) → bytes_eq m.name x ≡ b → cond b (Some number) (number_in old x) ≡ None → module_named x (map module_of modules) ≡ module_named x (map module_of (drop (suc number) modules))
        go true d f = absurd (search (rules, f))
        go false d f =
            h.missing x f ∙ ap (λ (ms : List Module). module_named x (map module_of ms)) next ∙ ap (λ b. cond b (Some (module_of m)) (module_named x (map module_of rest))) d
            ∙ ap (λ (ms : List Module). module_named x (map module_of ms)) left

    numbered : (k : ℕ) (q : Module) → k < suc number → slice_get modules k ≡ Some q → number_in new q.name ≡ Some k
    numbered k q l e = set q.name ∙ go (bytes_eq m.name q.name) refl (nat_lt k number) refl
      where
        go : (b : Bool) → bytes_eq m.name q.name ≡ b → (c : Bool) → nat_lt k number ≡ c → cond b (Some number) (number_in old q.name) ≡ Some k
        go true d true f =
            let o = h.numbered k q (ltb-true k number f) e in
            let none = ap (number_in old) (sym ((bytes_eq-Decides m.name q.name).0 d)) ∙ not-there in absurd (let g = sym none ∙ o in search (rules, g))
        go true d false f = ap Some (let g = ltb-false k number f in let i : number ≡ k = omega (arith, g, l) in i)
        go false d true f = h.numbered k q (ltb-true k number f) e
        go false d false f =
            let g = ltb-false k number f in let i : number ≡ k = omega (arith, g, l) in
            let same : m ≡ q = some_is m q (sym at ∙ ap (slice_get modules) i ∙ e) in
            absurd (let t = (bytes_eq-Decides m.name q.name).1 (ap (λ (z : Module). z.name) same) in let u = sym d ∙ t in search (rules, u))

    pub read-more : ReadSoFar modules (suc number) new
    read-more = record {
      before = m.name ∷ h.before;
      has = has;
      trial = h.trial ∙ ap (λ (ms : List Module). module_twice h.before (map module_of ms)) next
          ∙ ap (λ b. cond b (Some (module_of m)) (module_twice (m.name ∷ h.before) (map module_of rest))) (h.has m.name ∙ fresh)
          ∙ ap (λ (ms : List Module). module_twice (m.name ∷ h.before) (map module_of ms)) left;
      found = found;
      missing = missing;
      numbered = numbered;
    }

module _ {S : Type 0} (modules : List Module) (number : ℕ) (table : IndexMap Text ℕ S) (h : ReadSoFar modules number table) (all : drop number modules ≡ []) (each : (k : ℕ) (m : Module) → slice_get modules k ≡ Some m → k < number) where
  pub differ-all : modules_differ (map module_of modules) ≡ good tt
  differ-all = told (h.trial ∙ ap (λ (ms : List Module). module_twice h.before (map module_of ms)) all)
    where
      told : module_twice [] (map module_of modules) ≡ None → modules_differ (map module_of modules) ≡ good tt
      told t = rw t

  pub library-all : IsLibrary modules table
  library-all = record {
    numbers = λ x. go x (number_in table x) refl;
    distinct = λ i j m q e f s. some_is i j (sym (h.numbered i m (each i m e) e) ∙ ap (number_in table) s ∙ h.numbered j q (each j q f) f);
  }
    where
      go : (x : Text) (o : Option ℕ) → number_in table x ≡ o → IsNumber modules x o
      go x None e = h.missing x e ∙ ap (λ (ms : List Module). module_named x (map module_of ms)) all
      go x (Some k) e = h.found x k e

-- the refusal of a module's name
pub refuses-lists : (modules : List Module) (f : Fault) (r : Result Library Stop) → Refuses f r → modules_differ (map module_of modules) ≡ bad f → Lists modules r
refuses-lists modules f (Ok l) h e = absurd h
refuses-lists modules f (Err (Refused g)) h e = e ∙ ap bad (sym h)
refuses-lists modules f (Err Memory) h e = tt

pub ok-holds : {A B P : Type 0} (r : Result A B) → is_ok r ≡ true → OnOk r P → P
ok-holds (Ok a) e h = h
ok-holds (Err b) e h = absurd (search (rules, e))
