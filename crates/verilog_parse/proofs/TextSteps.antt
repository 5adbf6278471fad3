-- What is printed, step by step.
use Rattle.std.proofs.Common.{arith, codes, ℕ, zero, suc, ◌/◌, ◌^◌, ◌≡◌, ◌+◌, refl, sym, ap, subst, drop, length, ◌<◌, ◌≤◌, get_or, false, ◌∙◌, List, [], ◌∷◌, ◌++◌, map, append_assoc, append-nil, Result, Ok, Err, IfOk}
use Rattle.std.proofs.lemmas.List.{drop_more}
use Rattle.std.proofs.Math.ListN.{drop_of_length-le}
use Rattle.verilog_reading.specs.ExprTree.{ExprTree, trees_of, TargetTree, target_trees_of}
use Rattle.verilog_reading.specs.StmtTree.{StmtTree, stmt_trees_of, ArmTree, arms_of}
use Rattle.verilog_parse.specs.Pieces.{expr_pieces, each_expr, target_pieces, each_target, stmt_pieces, each_row, row_line, each_arm}
use Rattle.verilog_parse.specs.Texts.{arm_pieces}
use Rattle.verilog_parse.specs.Printed.{Printed, bytes_of, bytes_of_one, Adds, before_entry, behind, separated, in_turn, numeral, mask_digit, mask_digits, mask, token}
use Rattle.cdc_base.specs.declared.size.NumberSize.TheVariants.{Unsized, Sized}
use Rattle.verilog_lex.specs.declared.token.TokenKind.TheVariants.{Number, Mask}
use Rattle.std.specs.Fmt.{decimal, radix_digits}
use Rattle.std.specs.Prelude.{bit_and}
use Rattle.std.specs.Int.{bit_at}
use Rattle.std.proofs.lemmas.Nat.Bits.{bit_at_above, shr_and_one}

pub bytes_of_both : (ps qs : List Printed) → bytes_of (ps ++ qs) ≡ bytes_of ps ++ bytes_of qs
bytes_of_both [] qs = refl
bytes_of_both (p ∷ ps) qs = ap (λ x. bytes_of_one p ++ x) (bytes_of_both ps qs) ∙ sym (append_assoc (bytes_of_one p) (bytes_of ps) (bytes_of qs))

-- a blank stands behind a number with its width
pub sized : (width value blank : List ℕ) → (width ++ (codes "'h" ++ value)) ++ blank ≡ width ++ (codes "'h" ++ (value ++ blank))
sized width value blank = append_assoc width (codes "'h" ++ value) blank ∙ ap (λ x. width ++ x) (append_assoc (codes "'h") value blank)

-- one thing is printed, and then another
pub adds_both : (a b c : List ℕ) (ps qs : List Printed) → Adds a ps b → Adds b qs c → Adds a (ps ++ qs) c
adds_both a b c ps qs x y = record { added = y.added ∙ ap (λ z. z ++ bytes_of qs) x.added ∙ append_assoc a (bytes_of ps) (bytes_of qs) ∙ ap (λ z. a ++ z) (sym (bytes_of_both ps qs)) }

-- a step at whose end memory may be wanting
pub ok_behind : {A E : Type 0} (r : Result A E) (a b c : List ℕ) (ps qs : List Printed) → Adds a ps b → IfOk r (λ _. Adds b qs c) → IfOk r (λ _. Adds a (ps ++ qs) c)
ok_behind (Ok x) a b c ps qs h k = adds_both a b c ps qs h k
ok_behind (Err e) a b c ps qs h k = tt

pub adds_as : (a c : List ℕ) (ps whole : List Printed) → whole ≡ ps → Adds a ps c → Adds a whole c
adds_as a c ps whole e h = subst (λ x. Adds a x c) (sym e) h

pub ok_as : {A E : Type 0} (r : Result A E) (a c : List ℕ) (ps whole : List Printed) → whole ≡ ps → IfOk r (λ _. Adds a ps c) → IfOk r (λ _. Adds a whole c)
ok_as r a c ps whole e h = subst (λ x. IfOk r (λ _. Adds a x c)) (sym e) h

pub ok_number : {A E : Type 0} (r : Result A E) (a c text : List ℕ) (p : Printed) → bytes_of_one p ≡ text → IfOk r (λ _. c ≡ a ++ text) → IfOk r (λ _. Adds a (p ∷ []) c)
ok_number (Ok x) a c text p e h = record { added = h ∙ ap (λ z. a ++ z) (sym e ∙ sym (append-nil (bytes_of_one p))) }
ok_number (Err e) a c text p q h = tt

pub ok_sized : {A E : Type 0} (r : Result A E) (a c text : List ℕ) (value width : ℕ) → text ≡ decimal width ++ (codes "'h" ++ (radix_digits 16 false value ++ codes " "))
    → IfOk r (λ _. c ≡ a ++ text) → IfOk r (λ _. Adds a (numeral value width Sized) c)
ok_sized r a c text value width e h = ok_number r a c text (token (Number value width Sized)) (sized (decimal width) (radix_digits 16 false value) (codes " ") ∙ sym e) h

pub ok_unsized : {A E : Type 0} (r : Result A E) (a c text : List ℕ) (value : ℕ) → text ≡ codes "'h" ++ (radix_digits 16 false value ++ codes " ")
    → IfOk r (λ _. c ≡ a ++ text) → IfOk r (λ _. Adds a (numeral value 32 Unsized) c)
ok_unsized r a c text value e h = ok_number r a c text (token (Number value 32 Unsized)) (append_assoc (codes "'h") (radix_digits 16 false value) (codes " ") ∙ sym e) h

-- a mask: its width and base, its digits, and a blank
mask_text : (width digits blank : List ℕ) → (width ++ (codes "'b?" ++ digits)) ++ blank ≡ ((width ++ codes "'b?") ++ digits) ++ blank
mask_text width digits blank = ap (λ z. z ++ blank) (sym (append_assoc width (codes "'b?") digits))

pub ok_mask : {A E : Type 0} (r : Result A E) (a b c d : List ℕ) (value opened width : ℕ) → b ≡ a ++ (decimal width ++ codes "'b?") → c ≡ b ++ mask_digits width value opened
    → IfOk r (λ _. d ≡ c ++ codes " ") → IfOk r (λ _. Adds a (mask value opened width) d)
ok_mask (Ok x) a b c d value opened width p q h = let digits = mask_digits width value opened in let base = decimal width ++ codes "'b?" in
    record {
      added = h ∙ ap (λ z. z ++ codes " ") (q ∙ ap (λ z. z ++ digits) p ∙ append_assoc a base digits) ∙ append_assoc a (base ++ digits) (codes " ")
          ∙ ap (λ z. a ++ z) (sym (mask_text (decimal width) digits (codes " ")) ∙ sym (append-nil (bytes_of_one (token (Mask value opened width)))));
    }
ok_mask (Err e) a b c d value opened width p q h = tt

pub ruleset mask_steps = (ok_mask, ok_number)

pub no_bit : (word at : ℕ) → word < 2 ^ 64 → 64 ≤ at → 0 ≡ bit_at word at
no_bit word at h l = sym (bit_at_above word 64 at h l)

pub some_bit : (word at : ℕ) → bit_and (word / 2 ^ at) 1 ≡ bit_at word at
some_bit word at = shr_and_one word at

pub ruleset bit_steps = (no_bit, some_bit)

-- the digits up to those that are left
pub digits_next : (a now new : List ℕ) (v o k left : ℕ) (whole : List ℕ) → a ++ whole ≡ now ++ mask_digits k v o → k ≡ suc left → new ≡ now ++ (mask_digit (bit_at v left) (bit_at o left) ∷ [])
    → a ++ whole ≡ new ++ mask_digits left v o
digits_next a now new v o k left whole g e q = let d = mask_digit (bit_at v left) (bit_at o left) in
    g ∙ ap (λ n. now ++ mask_digits n v o) e ∙ sym (append_assoc now (d ∷ []) (mask_digits left v o)) ∙ ap (λ z. z ++ mask_digits left v o) (sym q)

-- what is left of entries of which so many are printed
abbrev pub left_of : ℕ → List Printed → List (List Printed) → List Printed
left_of zero sep xs = separated sep xs
left_of (suc n) sep xs = behind sep xs

-- entries are printed up to those that are left
pub record Lists (old new : List ℕ) (sep : List Printed) (whole : List (List Printed)) (n : ℕ) (rest : List (List Printed)) : Type 0 where
  pub goes : old ++ bytes_of (separated sep whole) ≡ new ++ bytes_of (left_of n sep rest)

pub lists_next : (old now mid new : List ℕ) (sep : List Printed) (whole : List (List Printed)) (n : ℕ) (x : List Printed) (xs : List (List Printed))
    → Lists old now sep whole n (x ∷ xs) → Adds now (before_entry n sep) mid → Adds mid x new → Lists old new sep whole (suc n) xs
lists_next old now mid new sep whole zero x xs l a b = record {
  goes = l.goes ∙ ap (λ z. now ++ z) (bytes_of_both x (behind sep xs)) ∙ sym (append_assoc now (bytes_of x) (bytes_of (behind sep xs)))
      ∙ ap (λ z. z ++ bytes_of (behind sep xs)) (sym (adds_both now mid new [] x a b).added);
}
lists_next old now mid new sep whole (suc n) x xs l a b = record {
  goes = l.goes ∙ ap (λ z. now ++ bytes_of z) (sym (append_assoc sep x (behind sep xs))) ∙ ap (λ z. now ++ z) (bytes_of_both (sep ++ x) (behind sep xs))
      ∙ sym (append_assoc now (bytes_of (sep ++ x)) (bytes_of (behind sep xs))) ∙ ap (λ z. z ++ bytes_of (behind sep xs)) (sym (adds_both now mid new sep x a b).added);
}

front_of : {X : Type 0} (xs : List X) (x : X) (n : ℕ) → n < length xs → x ≡ get_or xs n x → drop n xs ≡ x ∷ drop (n + 1) xs
front_of xs x n h e = drop_more xs n x h ∙ ap (λ z. z ∷ drop (n + 1) xs) (sym e)

-- the entry at a place is printed
pub lists_step : {X : Type 0} (f : X → List Printed) (xs : List X) (x : X) (n : ℕ) (old now mid new : List ℕ) (sep : List Printed) (whole : List (List Printed)) → n < length xs → x ≡ get_or xs n x
    → Lists old now sep whole n (map f (drop n xs)) → Adds now (before_entry n sep) mid → Adds mid (f x) new → Lists old new sep whole (n + 1) (map f (drop (n + 1) xs))
lists_step f xs x n old now mid new sep whole h e l a b = subst (λ k. Lists old new sep whole k (map f (drop (n + 1) xs))) (let q : suc n ≡ n + 1 = omega arith in q)
    (lists_next old now mid new sep whole n (f x) (map f (drop (n + 1) xs)) (subst (λ z. Lists old now sep whole n (map f z)) (front_of xs x n h e) l) a b)

-- rows are printed up to those that are left
pub record Rows (old new : List ℕ) (whole rest : List (List Printed)) : Type 0 where
  pub goes : old ++ bytes_of (in_turn whole) ≡ new ++ bytes_of (in_turn rest)

pub rows_next : (old now new : List ℕ) (whole : List (List Printed)) (x : List Printed) (xs : List (List Printed)) → Rows old now whole (x ∷ xs) → Adds now x new → Rows old new whole xs
rows_next old now new whole x xs l a = record { goes = l.goes ∙ ap (λ z. now ++ z) (bytes_of_both x (in_turn xs)) ∙ sym (append_assoc now (bytes_of x) (bytes_of (in_turn xs))) ∙ ap (λ z. z ++ bytes_of (in_turn xs)) (sym a.added) }

pub rows_step : {X : Type 0} (f : X → List Printed) (xs : List X) (x : X) (n : ℕ) (old now new : List ℕ) (whole : List (List Printed)) → n < length xs → x ≡ get_or xs n x
    → Rows old now whole (map f (drop n xs)) → Adds now (f x) new → Rows old new whole (map f (drop (n + 1) xs))
rows_step f xs x n old now new whole h e l a = rows_next old now new whole (f x) (map f (drop (n + 1) xs)) (subst (λ z. Rows old now whole (map f z)) (front_of xs x n h e) l) a

pub rows_end : {X : Type 0} (f : X → List Printed) (xs : List X) (n : ℕ) (old new : List ℕ) → length xs ≤ n → Rows old new (map f xs) (map f (drop n xs)) → Adds old (in_turn (map f xs)) new
rows_end f xs n old new h l = record { added = sym (l.goes ∙ ap (λ z. new ++ bytes_of (in_turn (map f z))) (drop_of_length-le xs h) ∙ append-nil new) }

-- the entries of a concatenation are those of its list
pub each_of : (es : List ExprTree) → each_expr (trees_of es) ≡ map expr_pieces es
each_of [] = refl
each_of (e ∷ es) = ap (λ x. expr_pieces e ∷ x) (each_of es)

pub each_target_of : (ts : List TargetTree) → each_target (target_trees_of ts) ≡ map target_pieces ts
each_target_of [] = refl
each_target_of (t ∷ ts) = ap (λ x. target_pieces t ∷ x) (each_target_of ts)

pub each_row_of : (ss : List StmtTree) → each_row (stmt_trees_of ss) ≡ map (λ s. row_line (stmt_pieces s)) ss
each_row_of [] = refl
each_row_of (s ∷ ss) = ap (λ x. row_line (stmt_pieces s) ∷ x) (each_row_of ss)

pub each_arm_of : (arms : List ArmTree) → each_arm (arms_of arms) ≡ map arm_pieces arms
each_arm_of [] = refl
each_arm_of (a ∷ arms) = ap (λ x. arm_pieces a ∷ x) (each_arm_of arms)

pub map_twice : {A B C : Type 0} (f : A → B) (g : B → C) (xs : List A) → map g (map f xs) ≡ map (λ x. g (f x)) xs
map_twice f g [] = refl
map_twice f g (x ∷ xs) = ap (λ z. g (f x) ∷ z) (map_twice f g xs)
