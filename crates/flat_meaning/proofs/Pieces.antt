-- Joined pieces have the bits of the word that they are pieces of.
use Rattle.std.proofs.Common.{◌≡◌, ℕ, ◌+◌, ◌-◌, ◌<◌, ◌≤◌, false, cond, List, [], ◌∷◌, refl, sym, ap, subst, ◌∙◌, arith, max, min, le_trans}
use Rattle.cell_graph.specs.Reading.{Reading}
use Rattle.cell_graph.specs.Tree.{Tree, Const, bit}
use Rattle.flat_meaning.specs.Values.{Word}
use Rattle.flat_meaning.specs.Trees.{glue, cut}
use Rattle.flat_meaning.specs.Pieces.{Piece, whole_piece, join_pieces, met, IsRight, AreMet, SelectLaw}
use Rattle.flat_meaning.proofs.Words.{IsWord, as_word, zero_word, glue_word, empty_word, by_lt, cut_word}
use Rattle.flat_meaning.proofs.Targets.{own_word}

-- whole pieces in ascending order, and zeros between
abbrev AreOf : Reading → Word → (n : ℕ) → List Piece → (w : ℕ) → Type 0
AreOf r f n [] w = (n ≤ w) × ((i : ℕ) → n ≤ i → i < w → f i ≡ false)
AreOf r f n (p ∷ ps) w = (n ≤ p.at) × ((i : ℕ) → n ≤ i → i < p.at → f i ≡ false) × IsWord r p.tree p.bits (λ i. f (p.at + i)) × AreOf r f (p.bits + p.at) ps w

module _ (r : Reading) (f : Word) where
  -- a word on top of n low bits
  on_top : (m n : ℕ) {high low : Tree} {g : Word} → IsWord r high m g → IsWord r low n f → (k : ℕ) → k ≤ 64 → m + n ≡ k → ((i : ℕ) → i < m → g i ≡ f (n + i)) → IsWord r (glue m high n low) k f
  on_top m n {high} {low} {g} p q k room e h = subst (λ (j : ℕ). IsWord r (glue m high n low) j f) e
      (as_word r (glue_word r p q (omega arith)) (λ i l. by_lt (λ u. cond u (f i) (g (i - n)) ≡ f i) i n (λ j. refl)
      (λ j. h (i - n) (omega arith) ∙ ap f (let z : n + (i - n) ≡ i = omega arith in z))))

  -- with zeros up to place k
  filled : (n k : ℕ) {low : Tree} → n ≤ k → k ≤ 64 → IsWord r low n f → ((i : ℕ) → n ≤ i → i < k → f i ≡ false) → IsWord r (glue (k - n) (Const (k - n) 0) n low) k f
  filled n k l room q h = on_top (k - n) n (zero_word r (k - n)) q k room (omega arith) (λ i j. sym (h (n + i) (omega arith) (omega arith)))

  ends_below : (ps : List Piece) (n w : ℕ) → AreOf r f n ps w → n ≤ w
  ends_below [] n w h = h.0
  ends_below (p ∷ ps) n w h = let k = ends_below ps (p.bits + p.at) w h.3 in let l = h.0 in omega arith

  joined_word : (ps : List Piece) (n w : ℕ) (low : Tree) → w ≤ 64 → IsWord r low n f → AreOf r f n ps w → IsWord r (join_pieces n low ps w) w f
  joined_word [] n w low room q h = filled n w h.0 room q h.1
  joined_word (p ∷ ps) n w low room q h =
      let k = ends_below ps (p.bits + p.at) w h.3 in
      joined_word ps (p.bits + p.at) w _ room (on_top p.bits p.at h.2 (filled n p.at h.0 (omega arith) q h.1) (p.bits + p.at) (omega arith) refl (λ i l. refl)) h.3

-- a lower beginning, where all is zero between
begin_lower : (r : Reading) (f : Word) (n m : ℕ) (ps : List Piece) (w : ℕ) → n ≤ m → ((i : ℕ) → n ≤ i → i < m → f i ≡ false) → AreOf r f m ps w → AreOf r f n ps w
begin_lower r f n m [] w l z h = (le_trans l h.0, λ i j k. by_lt (λ u. f i ≡ false) i m (λ q. z i j q) (λ q. h.1 i q k))
begin_lower r f n m (p ∷ ps) w l z h = (le_trans l h.0, λ i j k. by_lt (λ u. f i ≡ false) i m (λ q. z i j q) (λ q. h.1 i q k), h.2, h.3)

-- the first place from n on inside the select, from its own lowest bit
abbrev clip : (at w n : ℕ) → ℕ
clip at w n = min (max n at) (at + w) - at

met_are : (r : Reading) (f : Word) (at w n : ℕ) (ps : List Piece) (whole : ℕ) → at + w ≤ whole → AreMet r f at w n ps whole → AreOf r (λ i. f (at + i)) (clip at w n) (met at w ps) w
met_are r f at w n [] whole l h = (omega arith, λ i j k. h.1 (at + i) (omega arith) (omega arith))
met_are r f at w n (p ∷ ps) whole l h =
    let low = max at p.at in let high = min (at + w) (p.bits + p.at) in
    let rest = met_are r f at w (p.bits + p.at) ps whole l h.3 in
    let first = h.0 in
    by_lt (λ u. AreOf r (λ i. f (at + i)) (clip at w n) (cond u (whole_piece (low - at) (high - low) (cut p.size (p.inside + (low - p.at)) (high - low) p.tree) ∷ met at w ps) (met at w ps)) w) low high
    (λ q. (
      omega arith,
      λ i j k. h.1 (at + i) (omega arith) (omega arith),
      piece (h.2 q) q,
      subst (λ (m : ℕ). AreOf r (λ i. f (at + i)) m (met at w ps) w) (let z : clip at w (p.bits + p.at) ≡ high - low + (low - at) = omega arith in z) rest,
    ))
    (λ q. begin_lower r (λ i. f (at + i)) (clip at w n) (clip at w (p.bits + p.at)) (met at w ps) w (omega arith) (λ i j k. h.1 (at + i) (omega arith) (omega arith)) rest)
  where
    piece : IsRight r f p → max at p.at < min (at + w) (p.bits + p.at)
        → IsWord r (cut p.size (p.inside + (max at p.at - p.at)) (min (at + w) (p.bits + p.at) - max at p.at) p.tree) (min (at + w) (p.bits + p.at) - max at p.at) (λ i. f (at + (max at p.at - at + i)))
    piece e q =
        let room = e.room in
        let c = cut_word r (own_word r p.tree p.size e.wide) (p.inside + (max at p.at - p.at)) (min (at + w) (p.bits + p.at) - max at p.at) (omega arith) in
        record {
          wide = c.wide;
          bits = λ i j. c.bits i j ∙ ap (bit r p.tree) (let z : p.inside + (max at p.at - p.at) + i ≡ p.inside + (max at p.at - p.at + i) = omega arith in z)
              ∙ e.same (max at p.at - p.at + i) (omega arith) ∙ ap f (let z : p.at + (max at p.at - p.at + i) ≡ at + (max at p.at - at + i) = omega arith in z);
        }

pub select_law : SelectLaw
select_law r f ps whole at w l room h =
    let z : clip at w 0 ≡ 0 = omega arith in
    let p = joined_word r (λ i. f (at + i)) (met at w ps) 0 w (Const 0 0) (omega arith) (empty_word r (λ i. f (at + i))) (subst (λ (m : ℕ). AreOf r (λ i. f (at + i)) m (met at w ps) w) z (met_are r f at w 0 ps whole l h)) in
    (p.wide, p.bits)
