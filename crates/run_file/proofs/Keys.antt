-- An object that was read has each key once.
use Rattle.std.proofs.Common.{◌≡◌, ◌≢◌, ◌∙◌, ℕ, Bool, true, false, List, [], ◌∷◌, Option, Some, None, option_map, refl, sym, ap, subst, Ordering, Less, Equal, Greater}
use Rattle.std.specs.Prelude.{option_and_then}
use Rattle.std.specs.Cmp.{IsTotalOrder}
use Rattle.std.specs.Cmp.Lexicographic.{slice_cmp}
use Rattle.std.specs.Ordering.{nat_cmp, match_ordering, ordering_reverse}
use Rattle.std.proofs.lemmas.Cmp.{nat_list_cmp_total}
use Rattle.json.specs.Json as json
use Rattle.serde_json.specs.Data.{Num, Data, null, boolean, number, string, array, object, Items, no_items, item, Members, no_members, member, put}
use Rattle.serde_json.specs.Find.{get, get_member}
use Rattle.serde_json.specs.Read.{number_of, of_json, of_items, of_members}
use Rattle.clock_constraints.specs.Refusals.{Text}

abbrev order : Text → Text → Ordering
order = slice_cmp nat_cmp

-- all keys of the members come behind k
abbrev pub AllBehind : Text → Members → Type 0
AllBehind k no_members = Unit {0}
AllBehind k (member l d ms) = (order k l ≡ Less) × AllBehind k ms

abbrev pub Ascend : Members → Type 0
Ascend no_members = Unit {0}
Ascend (member k d ms) = AllBehind k ms × Ascend ms

-- the keys of every object ascend, at each depth
abbrev mutual
  pub IsOrdered : Data → Type 0
  IsOrdered null = Unit {0}
  IsOrdered (boolean b) = Unit {0}
  IsOrdered (number n) = Unit {0}
  IsOrdered (string s) = Unit {0}
  IsOrdered (array ds) = AreOrdered ds
  IsOrdered (object ms) = Ascend ms × AllOrdered ms

  pub AreOrdered : Items → Type 0
  AreOrdered no_items = Unit {0}
  AreOrdered (item d ds) = IsOrdered d × AreOrdered ds

  pub AllOrdered : Members → Type 0
  AllOrdered no_members = Unit {0}
  AllOrdered (member k d ms) = IsOrdered d × AllOrdered ms

behind_further : (j k : Text) (ms : Members) → order j k ≡ Less → AllBehind k ms → AllBehind j ms
behind_further j k no_members l h = tt
behind_further j k (member m d ms) l h = (nat_list_cmp_total.trans j k m l h.0, behind_further j k ms l h.1)

turned : (j k : Text) → order j k ≡ Greater → order k j ≡ Less
turned j k e = nat_list_cmp_total.antisymm k j ∙ ap ordering_reverse e

put_behind : (j k : Text) (d : Data) (ms : Members) → order j k ≡ Less → AllBehind j ms → AllBehind j (put k d ms)
put_behind j k d no_members l h = (l, tt)
put_behind j k d (member m e ms) l h = go (order k m) (put_behind j k d ms l h.1)
  where
    go : (o : Ordering) → AllBehind j (put k d ms) → AllBehind j (match_ordering o (member k d (member m e ms)) (member m d ms) (member m e (put k d ms)))
    go Less rest = (l, (h.0, h.1))
    go Equal rest = (h.0, h.1)
    go Greater rest = (h.0, rest)

put_ascends : (k : Text) (d : Data) (ms : Members) → Ascend ms → Ascend (put k d ms)
put_ascends k d no_members h = (tt, tt)
put_ascends k d (member m e ms) h = go (order k m) refl (put_ascends k d ms h.1)
  where
    go : (o : Ordering) → order k m ≡ o → Ascend (put k d ms) → Ascend (match_ordering o (member k d (member m e ms)) (member m d ms) (member m e (put k d ms)))
    go Less is rest = ((is, behind_further k m ms is h.0), (h.0, h.1))
    go Equal is rest = (h.0, h.1)
    go Greater is rest = (put_behind m k d ms (turned k m is) h.0, rest)

put_ordered : (k : Text) (d : Data) (ms : Members) → IsOrdered d → AllOrdered ms → AllOrdered (put k d ms)
put_ordered k d no_members o h = (o, tt)
put_ordered k d (member m e ms) o h = go (order k m) (put_ordered k d ms o h.1)
  where
    go : (r : Ordering) → AllOrdered (put k d ms) → AllOrdered (match_ordering r (member k d (member m e ms)) (member m d ms) (member m e (put k d ms)))
    go Less rest = (o, (h.0, h.1))
    go Equal rest = (o, h.1)
    go Greater rest = (h.0, rest)

-- what stands where both parts were there
pub and_then_some : {A B : Type 0} (o : Option A) (f : A → Option B) (y : B) → option_and_then f o ≡ Some y → (x : A) × (o ≡ Some x) × (f x ≡ Some y)
and_then_some None f y e = cc
and_then_some (Some x) f y e = (x, refl, e)

pub map_some : {A B : Type 0} (o : Option A) (f : A → B) (y : B) → option_map f o ≡ Some y → (x : A) × (o ≡ Some x) × (f x ≡ y)
map_some None f y e = cc
map_some (Some x) f y e = (x, refl, cc)

mutual
  pub read_ordered : (j : json.Json) (d : Data) → of_json j ≡ Some d → IsOrdered d
  read_ordered json.null d e = let s : null ≡ d = cc in subst IsOrdered s tt
  read_ordered (json.boolean b) d e = let s : boolean b ≡ d = cc in subst IsOrdered s tt
  read_ordered (json.number s) d e = let k = map_some (number_of s) number d e in subst IsOrdered k.2 tt
  read_ordered (json.string s) d e = let t : string s ≡ d = cc in subst IsOrdered t tt
  read_ordered (json.array js) d e = let k = map_some (of_items js) array d e in subst IsOrdered k.2 (items_ordered js k.0 k.1)
  read_ordered (json.object ms) d e = let k = map_some (of_members ms no_members) object d e in subst IsOrdered k.2 (members_ordered ms no_members k.0 tt tt k.1)

  items_ordered : (js : json.Items) (ds : Items) → of_items js ≡ Some ds → AreOrdered ds
  items_ordered json.no_items ds e = let s : no_items ≡ ds = cc in subst AreOrdered s tt
  items_ordered (json.item j js) ds e =
      let k = and_then_some (of_json j) (λ d. option_map (item d) (of_items js)) ds e in
      let l = map_some (of_items js) (item k.0) ds k.2 in
      subst AreOrdered l.2 (read_ordered j k.0 k.1, items_ordered js l.0 l.1)

  members_ordered : (ms : json.Members) (found whole : Members) → Ascend found → AllOrdered found → of_members ms found ≡ Some whole → Ascend whole × AllOrdered whole
  members_ordered json.no_members found whole up o e = let s : found ≡ whole = cc in (subst Ascend s up, subst AllOrdered s o)
  members_ordered (json.member k j ms) found whole up o e =
      let d = and_then_some (of_json j) (λ d. of_members ms (put k d found)) whole e in
      members_ordered ms (put k d.0 found) whole (put_ascends k d.0 found up) (put_ordered k d.0 found (read_ordered j d.0 d.1) o) d.2

-- what stands at a key
pub member_ordered : (k : Text) (ms : Members) (d : Data) → AllOrdered ms → get_member k ms ≡ Some d → IsOrdered d
member_ordered k no_members d h e = cc
member_ordered k (member l v ms) d h e = go (order k l) e (member_ordered k ms d h.1)
  where
    go : (o : Ordering) → match_ordering o (get_member k ms) (Some v) (get_member k ms) ≡ Some d → (get_member k ms ≡ Some d → IsOrdered d) → IsOrdered d
    go Less f ih = ih f
    go Equal f ih = let s : v ≡ d = cc in subst IsOrdered s h.0
    go Greater f ih = ih f

pub got_ordered : (k : Text) (whole d : Data) → IsOrdered whole → get k whole ≡ Some d → IsOrdered d
got_ordered k null d h e = cc
got_ordered k (boolean b) d h e = cc
got_ordered k (number n) d h e = cc
got_ordered k (string s) d h e = cc
got_ordered k (array ds) d h e = cc
got_ordered k (object ms) d h e = member_ordered k ms d h.1 e

-- keys behind one another differ
pub behind_differs : (j k : Text) → order j k ≡ Less → j ≢ k
behind_differs j k l e = go (order j j) refl (subst (λ (t : Text). order j t ≡ Less) (sym e) l)
  where
    go : (o : Ordering) → order j j ≡ o → order j j ≡ Less → ⊥
    go o is less = let f = nat_list_cmp_total.antisymm j j in let g : Less ≡ ordering_reverse Less = sym less ∙ f ∙ ap ordering_reverse less in cc
