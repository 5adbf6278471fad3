-- What a reset gives registers, bit by bit.
use Rattle.std.proofs.Common.{◌≡◌, ℕ, ◌+◌, ◌-◌, ◌*◌, ◌/◌, ◌%◌, ◌^◌, ◌<◌, ◌≤◌, min, false, cond, not, ◌&&◌, nat_lt, List, [], ◌∷◌, ◌++◌, length, refl, sym, ap, subst, ◌∙◌, arith, append_assoc, append-nil, lt-ltb, bit_and}
use Rattle.std.proofs.lemmas.Nat.{pow-add, and_mask}
use Rattle.std.proofs.Math.Nat.{div-div-eq-div-mul}
use Rattle.cell_graph.specs.Tree.{bit_at}
use Rattle.cell_graph.proofs.Words.{bit-mod, bit-up}
use Rattle.flat_meaning.specs.Assigned.{is_within}
use Rattle.flat_meaning.specs.Flat.{Target, Whole, Targets, no_targets, target, target_size, target_sizes}
use Rattle.flat_meaning.proofs.Words.{by_lt}
use Rattle.flat_unfolding.specs.Names.{Look, width_at}
use Rattle.flat_unfolding.specs.Resets.{given_to, given_to_all}
use Rattle.flat_unfolding.specs.Design as u
use Rattle.flat_process.specs.declared.reset.Given.{Given}
use Rattle.flat_process.specs.Resets.{ArePlain, bits_given, IsGiven, AreGiven, Gives, GivesAll}

-- ---- lists of what is given

pub are-push : (n : ℕ) (us : List u.Given) (gs : List Given) (v : u.Given) (g : Given) → AreGiven n us gs → IsGiven n v g → AreGiven n (us ++ v ∷ []) (gs ++ g ∷ [])
are-push n [] [] v g h i = (i, tt)
are-push n [] (x ∷ gs) v g h i = absurd h
are-push n (w ∷ us) [] v g h i = absurd h
are-push n (w ∷ us) (x ∷ gs) v g h i = (h.0, are-push n us gs v g h.1 i)

-- ---- the bits of a signal

-- the lowest bits of a word, moved to their place
pub moved-value : (word at w i : ℕ) → i < 64 → bit_at (word % 2 ^ w * 2 ^ at % 2 ^ 64) i ≡ (is_within at w i && bit_at (word % 2 ^ w) (i - at))
moved-value word at w i l = bit-mod (v * 2 ^ at) 64 i ∙ ap (λ b. cond b (bit_at (v * 2 ^ at) i) false) (lt-ltb i 64 l) ∙ bit-up v at i
    ∙ by_lt (λ b. cond b false (bit_at v (i - at)) ≡ (not b && nat_lt i (at + w) && bit_at v (i - at))) i at (λ less. refl) (λ most. above most)
  where
    v : ℕ
    v = word % 2 ^ w

    above : at ≤ i → bit_at v (i - at) ≡ (nat_lt i (at + w) && bit_at v (i - at))
    above most = by_lt (λ b. bit_at v (i - at) ≡ (b && bit_at v (i - at))) i (at + w) (λ less. refl)
        (λ out. bit-mod word w (i - at) ∙ by_lt (λ b. cond b (bit_at word (i - at)) false ≡ false) (i - at) w (λ less. absurd (omega arith)) (λ no. refl))

pub masked-value : (word w : ℕ) → w ≤ 64 → bit_and word (2 ^ min w 64 - 1) ≡ word % 2 ^ w
masked-value word w h = ap (λ k. bit_and word (2 ^ k - 1)) (let e : min w 64 ≡ w = omega arith in e) ∙ and_mask word w

-- ---- targets

pub less-size : (top w rest : ℕ) → rest + w ≡ top → top - w ≡ rest
less-size top w rest h = omega arith

module _ (l : Look) (us : List u.Given) (word top rest : ℕ) (gs : List Given) where
  pub gives-bits : (s at w : ℕ) → rest + w ≡ top → AreGiven (length l.entries) (us ++ bits_given s at w (word / 2 ^ (top - w)) ∷ []) gs → AreGiven (length l.entries) (us ++ bits_given s at w (word / 2 ^ rest) ∷ []) gs
  gives-bits s at w h i = subst (λ k. AreGiven (length l.entries) (us ++ bits_given s at w (word / 2 ^ k) ∷ []) gs) (less-size top w rest h) i

  pub gives-whole : (s : ℕ) → rest + width_at l.entries s ≡ top → AreGiven (length l.entries) (us ++ bits_given s 0 (width_at l.entries s) (word / 2 ^ (top - width_at l.entries s)) ∷ []) gs → Gives l us (Whole s) word top rest gs
  gives-whole s h i = record { left = h; given = gives-bits s 0 (width_at l.entries s) h i }

div-pow : (word a b : ℕ) → word / 2 ^ a / 2 ^ b ≡ word / 2 ^ (a + b)
div-pow word a b = div-div-eq-div-mul word (2 ^ a) (2 ^ b) ∙ ap (λ k. word / k) (sym (pow-add 2 a b))

-- targets that got their bits, where `later` are left
pub record GivesSoFar (l : Look) (us : List u.Given) (all later : Targets) (word top left : ℕ) (gs : List Given) : Type 0 where
  pub so_far : List u.Given
  pub are : AreGiven (length l.entries) so_far gs
  pub reaches : (rest : ℕ) → rest + target_sizes (width_at l.entries) later ≡ left → (rest + target_sizes (width_at l.entries) all ≡ top)
      × (so_far ++ given_to_all l later (word / 2 ^ rest) ≡ us ++ given_to_all l all (word / 2 ^ rest))
  pub fits : target_sizes (width_at l.entries) later ≤ left
  pub small : left ≤ 64
  pub plain : ArePlain (length l.entries) later

module _ (l : Look) (us : List u.Given) (all : Targets) (word top : ℕ) where
  pub so-next : (t : Target) (later : Targets) (left next : ℕ) (gs hs : List Given) (s : GivesSoFar l us all (target t later) word top left gs) → Gives l s.so_far t word left next hs → GivesSoFar l us all later word top next hs
  so-next t later left next gs hs s g =
      let sizes = target_sizes (width_at l.entries) later in
      let one = target_size (width_at l.entries) t in
      let fits = s.fits in let small = s.small in let moved = g.left in
      record {
        so_far = s.so_far ++ given_to l t (word / 2 ^ next);
        are = g.given;
        reaches = λ rest e.
            let r = s.reaches rest (let k : rest + (one + sizes) ≡ left = omega arith in k) in (
              r.0,
              append_assoc s.so_far (given_to l t (word / 2 ^ next)) (given_to_all l later (word / 2 ^ rest))
                  ∙ ap (λ k. s.so_far ++ (given_to l t k ++ given_to_all l later (word / 2 ^ rest))) (ap (λ k. word / 2 ^ k) (sym e) ∙ sym (div-pow word rest sizes))
                  ∙ r.1,
            );
        fits = (let k : sizes ≤ next = omega arith in k);
        small = (let k : next ≤ 64 = omega arith in k);
        plain = s.plain.1;
      }

  pub so-all : (left : ℕ) (gs : List Given) → GivesSoFar l us all no_targets word top left gs → GivesAll l us all word top left gs
  so-all left gs s =
      let r = s.reaches left (let k : left + 0 ≡ left = omega arith in k) in
      record { left = r.0; given = subst (λ vs. AreGiven (length l.entries) vs gs) (sym (append-nil s.so_far) ∙ r.1) s.are }
