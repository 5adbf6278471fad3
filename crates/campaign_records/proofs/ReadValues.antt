-- Values of JSON that are read back as data: strings, numbers, arrays, and objects whose keys ascend.
use Rattle.std.proofs.Common.{◌≡◌, ◌∙◌, ℕ, suc, ◌<◌, ◌≤◌, ◌^◌, List, [], ◌∷◌, map, IsUtf8, Some, option_map, refl, ap, ap₂, arith, Ordering, Less}
use Rattle.std.specs.Prelude.{option_and_then}
use Rattle.std.specs.Cmp.Lexicographic.{slice_cmp}
use Rattle.std.specs.List.{AllByRecursion}
use Rattle.std.specs.Ordering.{nat_cmp, match_ordering, ordering_reverse}
use Rattle.std.proofs.lemmas.Cmp.{nat_list_cmp_total}
use Rattle.json.specs.Json as json
use Rattle.json.specs.Json.{Json}
use Rattle.json.specs.Tree.{HasNumbers, ItemsHaveNumbers, MembersHaveNumbers, depth, items_depth, members_depth}
use Rattle.json.specs.Value as tree
use Rattle.json.proofs.Printed.Decimals.{IsNumber-decimal}
use Rattle.serde_json.specs.Data.{Data, number, string, array, object, unsigned, item, Members, no_members, member, put}
use Rattle.serde_json.specs.Read.{of_json, of_items, of_members}
use Rattle.serde_json.specs.View.{items_of}
use Rattle.serde_json.proofs.Numbers.{number_of-decimal}
use Rattle.clock_constraints.specs.Refusals.{Text}
use Rattle.report.specs.VerdictJson.{Entries, count_value, list_value, members_from, object_of}
use Rattle.campaign_records.proofs.Lines.{HasTexts, ItemsHaveTexts, MembersHaveTexts, decimal-text}

abbrev pub order : Text → Text → Ordering
order = slice_cmp nat_cmp

-- the value can be printed, nests no deeper than n, and is this data
pub record Reads (n : ℕ) (j : Json) (d : Data) : Type 0 where
  pub numbers : HasNumbers j
  pub texts : HasTexts j
  pub shallow : depth j ≤ n
  pub is : of_json j ≡ Some d

pub text-reads : (n : ℕ) (t : Text) → IsUtf8 t → Reads n (json.string t) (string t)
text-reads n t utf8 = record { numbers = tt; texts = utf8; shallow = omega arith; is = refl }

pub count-reads : (n v : ℕ) → v < 2 ^ 64 → Reads n (count_value v) (number (unsigned v))
count-reads n v h = record { numbers = IsNumber-decimal v h; texts = decimal-text v h; shallow = omega arith; is = ap (option_map number) (number_of-decimal v h) }

-- ---- arrays

module _ {A : Type 0} (n : ℕ) (f : A → Json) (g : A → Data) where
  pub record ReadItems (xs : List A) : Type 0 where
    pub numbers : ItemsHaveNumbers (tree.items_of (map f xs))
    pub texts : ItemsHaveTexts (tree.items_of (map f xs))
    pub shallow : items_depth (tree.items_of (map f xs)) ≤ n
    pub are : of_items (tree.items_of (map f xs)) ≡ Some (items_of (map g xs))

  items-read : (xs : List A) → AllByRecursion (λ x. Reads n (f x) (g x)) xs → ReadItems xs
  items-read [] h = record { numbers = tt; texts = tt; shallow = omega arith; are = refl }
  items-read (x ∷ xs) h = let first = h.0 in let rest = items-read xs h.1 in record {
    numbers = (first.numbers, rest.numbers);
    texts = (first.texts, rest.texts);
    shallow = (let a = first.shallow in let b = rest.shallow in omega arith);
    are = ap₂ (λ o p. option_and_then (λ d. option_map (item d) p) o) first.is rest.are;
  }

  pub array-reads : (xs : List A) → AllByRecursion (λ x. Reads n (f x) (g x)) xs → Reads (suc n) (list_value (map f xs)) (array (items_of (map g xs)))
  array-reads xs h = let all = items-read xs h in record {
    numbers = all.numbers;
    texts = all.texts;
    shallow = (let a = all.shallow in omega arith);
    is = ap (option_map array) all.are;
  }

-- ---- objects

-- members behind others
abbrev with_more : Members → Members → Members
with_more no_members ns = ns
with_more (member k d ms) ns = member k d (with_more ms ns)

-- all keys come before k
abbrev AllBefore : Members → Text → Type 0
AllBefore no_members k = Unit {0}
AllBefore (member l d ms) k = (order l k ≡ Less) × AllBefore ms k

abbrev one_member : Text → Data → Members
one_member k d = member k d no_members

put-last : (k : Text) (d : Data) (ms : Members) → AllBefore ms k → put k d ms ≡ with_more ms (one_member k d)
put-last k d no_members h = refl
put-last k d (member l e ms) h =
    ap (λ o. match_ordering o (member k d (member l e ms)) (member l d ms) (member l e (put k d ms))) (nat_list_cmp_total.antisymm k l ∙ ap ordering_reverse h.0)
    ∙ ap (member l e) (put-last k d ms h.1)

more-joined : (ms : Members) (k : Text) (d : Data) (ns : Members) → with_more (with_more ms (one_member k d)) ns ≡ with_more ms (member k d ns)
more-joined no_members k d ns = refl
more-joined (member l e ms) k d ns = ap (member l e) (more-joined ms k d ns)

before-more : (ms : Members) (l k : Text) (d : Data) → AllBefore ms k → order l k ≡ Less → AllBefore (with_more ms (one_member l d)) k
before-more no_members l k d h e = (e, tt)
before-more (member m x ms) l k d h e = (h.0, before-more ms l k d h.1 e)

module _ {A : Type 0} (key : A → Text) where
  -- each key comes before those behind it
  abbrev pub Rises : List A → Type 0
  Rises [] = Unit {0}
  Rises (x ∷ xs) = AllByRecursion (λ y. order (key x) (key y) ≡ Less) xs × Rises xs

  module _ (n : ℕ) (f : A → Json) (g : A → Data) where
    abbrev pub written : List A → Entries
    written xs = map (λ x. (key x, f x)) xs

    -- the members that are read
    abbrev pub fields : List A → Members
    fields [] = no_members
    fields (x ∷ xs) = member (key x) (g x) (fields xs)

    -- a key that is a text, and a value that is read
    abbrev pub ReadsField : A → Type 0
    ReadsField x = IsUtf8 (key x) × Reads n (f x) (g x)

    pub record ReadMembers (found : Members) (xs : List A) : Type 0 where
      pub numbers : MembersHaveNumbers (members_from (written xs))
      pub texts : MembersHaveTexts (members_from (written xs))
      pub shallow : members_depth (members_from (written xs)) ≤ n
      pub are : of_members (members_from (written xs)) found ≡ Some (with_more found (fields xs))

    further : (found : Members) (x : A) (xs : List A) → AllByRecursion (λ y. AllBefore found (key y)) xs → AllByRecursion (λ y. order (key x) (key y) ≡ Less) xs
        → AllByRecursion (λ y. AllBefore (with_more found (one_member (key x) (g x))) (key y)) xs
    further found x [] h k = tt
    further found x (y ∷ ys) h k = (before-more found (key x) (key y) (g x) h.0 k.0, further found x ys h.1 k.1)

    nothing-more : (ms : Members) → ms ≡ with_more ms no_members
    nothing-more no_members = refl
    nothing-more (member k d ms) = ap (member k d) (nothing-more ms)

    members-read : (found : Members) (xs : List A) → AllByRecursion (λ y. AllBefore found (key y)) xs → Rises xs → AllByRecursion ReadsField xs → ReadMembers found xs
    members-read found [] before rise h = record { numbers = tt; texts = tt; shallow = omega arith; are = ap Some (nothing-more found) }
    members-read found (x ∷ xs) before rise h =
        let first = h.0.1 in
        let rest = members-read (with_more found (one_member (key x) (g x))) xs (further found x xs before.1 rise.0) rise.1 h.1 in
        record {
          numbers = (first.numbers, rest.numbers);
          texts = (h.0.0, first.texts, rest.texts);
          shallow = (let a = first.shallow in let b = rest.shallow in omega arith);
          are =
              ap (option_and_then (λ d. of_members (members_from (written xs)) (put (key x) d found))) first.is
              ∙ ap (of_members (members_from (written xs))) (put-last (key x) (g x) found before.0)
              ∙ rest.are
              ∙ ap Some (more-joined found (key x) (g x) (fields xs));
        }

    none-before : (xs : List A) → AllByRecursion (λ y. AllBefore no_members (key y)) xs
    none-before [] = tt
    none-before (x ∷ xs) = (tt, none-before xs)

    pub object-reads : (xs : List A) → Rises xs → AllByRecursion ReadsField xs → Reads (suc n) (object_of (written xs)) (object (fields xs))
    object-reads xs rise h = let all = members-read no_members xs (none-before xs) rise h in record {
      numbers = all.numbers;
      texts = all.texts;
      shallow = (let a = all.shallow in omega arith);
      is = ap (option_map object) all.are;
    }
