-- Signals and memories that are added, as the definition adds them.
use Rattle.std.proofs.Common.{◌≡◌, ℕ, suc, ◌+◌, ◌<◌, ◌≤◌, Bool, true, false, cond, not, ◌&&◌, ◌==◌, nat_lt, List, [], ◌∷◌, ◌++◌, length, map, Option, Some, None, Result, Ok, Err, sym, ap, ap₂, subst, ◌∙◌, arith, rules, lt-ltb, ltb-true}
use Rattle.std.specs.Cmp.Lexicographic.{pointwise}
use Rattle.std.proofs.lemmas.List.{map-append, length-map, length-append, append_assoc}
use Rattle.indexmap.specs.IndexMap.{IndexMap}
use Rattle.cdc_base.specs.declared.signal.ResetPin.{ResetPin}
use Rattle.cdc_base.specs.declared.fault.Fault.{Fault}
use Rattle.cdc_base.specs.declared.fault.Stop.{Stop}
use Rattle.cdc_base.specs.declared.fault.Stop.TheVariants.{Refused, Memory}
use Rattle.verilog_reading.specs.SourceTree.{DeclTree}
use Rattle.flat_unfolding.specs.Outcome.{Text, good, bad, then_, refused_if}
use Rattle.flat_unfolding.specs.Names as n
use Rattle.flat_unfolding.specs.Names.{Range, a_signal, a_memory, no_value, is_declared, word_name}
use Rattle.flat_unfolding.specs.Memories.{word_names, taken}
use Rattle.flat_unfolding.specs.Declarations.{Site, is_plain_port, entry, added, taken_names, add_signal, add_memory}
use Rattle.flat_unfolding.specs.Design as u
use Rattle.flat_unfolding.specs.Design.{Stage}
use Rattle.flat_names.specs.declared.scope.Memory as kept
use Rattle.flat_names.specs.declared.scope.Meaning.{Meaning}
use Rattle.flat_names.specs.declared.scope.Meaning.TheVariants as m
use Rattle.flat_names.specs.declared.design.Design.{Design}
use Rattle.flat_names.specs.Noting.{Refuses}
use Rattle.flat_names.specs.Looks.{kept_in}
use Rattle.flat_names.specs.Designs.{ShowsNames, ShowsDesign, ShowsStage, Meets}
use Rattle.flat_names.proofs.Selected.{lt-false}
use Rattle.flat_declarations.specs.Declaring.{Adds}
use Rattle.flat_declarations.proofs.Named.{defined, first-words, word-count, next-free, own-free}

-- ---- limits

abbrev pub too_many : Fault
too_many = record { number = 601; place = None; name = [] }

pub adds-shown : (pins : List ResetPin) (e : u.Design) (y : n.Entry) (d : Design) (s : ℕ) → s ≡ length e.entries → s < 1048576 → ShowsDesign pins d (record e { entries = e.entries ++ (y ∷ []) }) → Adds pins e y (Ok s) d
adds-shown pins e y d s i l h = (i, lt-false 1048576 (length e.entries + 1) (omega (arith, i, l)), h)

-- a refusal for too many signals, as added refuses
many-meets : {S : Type 0} (pins : List ResetPin) (table : IndexMap Text Meaning S) (s : Stage) (es : List n.Entry) (names : n.Names) (r : Result (Unit {0}) Stop) (d : Design)
    → nat_lt 1048576 (length s.design.entries + length es) ≡ true → Refuses too_many r → Meets pins table (added s es names) r d
many-meets pins table s es names (Ok u) d k h = absurd h
many-meets pins table s es names (Err (Refused f)) d k h = ap (λ b. then_ (refused_if b 601 None []) (λ u. good (record { names = s.names ++ names; design = record s.design { entries = s.design.entries ++ es } }))) k ∙ ap bad (sym h)
many-meets pins table s es names (Err Memory) d k h = tt

few-meets : {S : Type 0} (pins : List ResetPin) (table : IndexMap Text Meaning S) (s : Stage) (es : List n.Entry) (names : n.Names) (u : Unit {0}) (d : Design)
    → nat_lt 1048576 (length s.design.entries + length es) ≡ false → ShowsNames table (s.names ++ names) → ShowsDesign pins d (record s.design { entries = s.design.entries ++ es })
    → Meets pins table (added s es names) (Ok u) d
few-meets pins table s es names u d k a b = (
  record { names = s.names ++ names; design = record s.design { entries = s.design.entries ++ es } },
  ap (λ b. then_ (refused_if b 601 None []) (λ u. good (record { names = s.names ++ names; design = record s.design { entries = s.design.entries ++ es } }))) k,
  record { names = a; design = b },
)

-- ---- one signal

module _ {S : Type 0} (pins : List ResetPin) (old new : IndexMap Text Meaning S) (d : Design) (s : Stage) (at : Site) (x : DeclTree) (r : Option Range) where
  abbrev one : n.Entry
  one = entry at x.kind r (is_plain_port x.kind && not at.in_header) x.name

  pub signal-err : (y : Stop) → Adds pins s.design one (Err y) d → Meets pins new (add_signal s at x r) (Err y) d
  signal-err (Refused f) h = many-meets pins new s (one ∷ []) ((x.name, a_signal (length s.design.entries)) ∷ []) (Err (Refused f)) d h.0 h.1
  signal-err Memory h = tt

  pub signal-ok : (i : ℕ) (u : Unit {0}) → ShowsNames old s.names → is_declared s.names x.name ≡ false → Adds pins s.design one (Ok i) d
      → ((y : Text) → kept_in new y ≡ cond (pointwise ◌==◌ x.name y) (Some (m.Signal i)) (kept_in old y)) → Meets pins new (add_signal s at x r) (Ok u) d
  signal-ok i u h f a k = few-meets pins new s (one ∷ []) ((x.name, a_signal (length s.design.entries)) ∷ []) u d a.1
      (subst (λ j. ShowsNames new (s.names ++ ((x.name, a_signal j) ∷ []))) a.0 (defined old new s.names x.name (m.Signal i) h f k)) a.2

-- ---- a memory, word by word

module _ (s : Stage) (at : Site) (x : DeclTree) (r : Option Range) where
  -- the stage with its first words
  abbrev pub with_words : ℕ → Stage
  with_words k = record {
    names = s.names ++ taken_names (word_names x.name 0 k);
    design = record s.design { entries = s.design.entries ++ map (entry at x.kind r false) (word_names x.name 0 k) };
  }

  -- the number of its signals
  words-length : (k : ℕ) → length (with_words k).design.entries ≡ length s.design.entries + k
  words-length k = length-append s.design.entries (map (entry at x.kind r false) (word_names x.name 0 k)) ∙ ap (λ i. length s.design.entries + i) (length-map (word_names x.name 0 k) (entry at x.kind r false) ∙ word-count x.name 0 k)

  words-names : (k : ℕ) → (with_words k).names ++ ((word_name x.name k, no_value) ∷ []) ≡ (with_words (suc k)).names
  words-names k =
      append_assoc s.names (taken_names (word_names x.name 0 k)) ((word_name x.name k, no_value) ∷ [])
      ∙ ap (λ xs. s.names ++ xs) (sym (map-append (λ (y : Text). (y, no_value)) (word_names x.name 0 k) (word_name x.name k ∷ [])) ∙ ap taken_names (sym (first-words x.name k)))

  words-design : (k : ℕ) → record (with_words k).design { entries = (with_words k).design.entries ++ (entry at x.kind r false (word_name x.name k) ∷ []) } ≡ (with_words (suc k)).design
  words-design k = ap (λ es. record s.design { entries = es }) (
      append_assoc s.design.entries (map (entry at x.kind r false) (word_names x.name 0 k)) (entry at x.kind r false (word_name x.name k) ∷ [])
      ∙ ap (λ es. s.design.entries ++ es) (sym (map-append (entry at x.kind r false) (word_names x.name 0 k) (word_name x.name k ∷ [])) ∙ ap (map (entry at x.kind r false)) (sym (first-words x.name k))))

  module _ {S : Type 0} (pins : List ResetPin) where
    -- one word more
    pub next-word : (old new : IndexMap Text Meaning S) (c d : Design) (words k i : ℕ) → ShowsStage pins old c (with_words k) → words ≤ 1024 → k < words → taken s.names (word_names x.name 0 words) ≡ []
        → Adds pins (with_words k).design (entry at x.kind r false (word_name x.name k)) (Ok i) d
        → ((y : Text) → kept_in new y ≡ cond (pointwise ◌==◌ (word_name x.name k) y) (Some m.NoValue) (kept_in old y)) → ShowsStage pins new d (with_words (suc k))
    next-word old new c d words k i h w l t a e = record {
      names = subst (ShowsNames new) (words-names k) (defined old new (with_words k).names (word_name x.name k) m.NoValue h.names (next-free s.names x.name words k w l t) e);
      design = subst (ShowsDesign pins d) (words-design k) a.2;
    }

    -- no word is one too many
    pub word-err : (table : IndexMap Text Meaning S) (d : Design) (words k : ℕ) (y : Stop) → length s.design.entries + words ≤ 1048576 → k < words
        → Adds pins (with_words k).design (entry at x.kind r false (word_name x.name k)) (Err y) d → Meets pins table (add_memory s at x r words) (Err y) d
    word-err table d words k (Refused f) l b h = absurd (let g = ltb-true 1048576 (length (with_words k).design.entries + 1) h.0 in let j = words-length k in omega (arith, g, j, l, b))
    word-err table d words k Memory l b h = tt

    -- the memory itself
    pub memory-ok : (old new : IndexMap Text Meaning S) (d : Design) (words : ℕ) (v : kept.Memory) (u : Unit {0}) → ShowsStage pins old d (with_words words) → is_declared s.names x.name ≡ false
        → length s.design.entries + words ≤ 1048576 → v.first ≡ length s.design.entries → v.words ≡ words
        → ((y : Text) → kept_in new y ≡ cond (pointwise ◌==◌ x.name y) (Some (m.Memory v)) (kept_in old y)) → Meets pins new (add_memory s at x r words) (Ok u) d
    memory-ok old new d words v u h f l a b e =
        let first = length s.design.entries in let xs = word_names x.name 0 words in
        let many : length (map (entry at x.kind r false) xs) ≡ words = length-map xs (entry at x.kind r false) ∙ word-count x.name 0 words in
        let named = defined old new (with_words words).names x.name (m.Memory v) h.names (own-free s.names x.name words f) e in
        few-meets pins new s (map (entry at x.kind r false) xs) (taken_names xs ++ ((x.name, a_memory (record { first = first; words = words })) ∷ [])) u d
        (lt-false 1048576 (first + length (map (entry at x.kind r false) xs)) (omega (arith, many, l)))
        (subst (ShowsNames new) (ap₂ (λ i j. (s.names ++ taken_names xs) ++ ((x.name, a_memory (record { first = i; words = j })) ∷ [])) a b ∙ append_assoc s.names (taken_names xs) ((x.name, a_memory (record { first = first; words = words })) ∷ [])) named)
        h.design

    -- too many words
    pub memory-many : (table : IndexMap Text Meaning S) (d : Design) (words : ℕ) (y : Result (Unit {0}) Stop) → 1048576 < length s.design.entries + words → Refuses too_many y → Meets pins table (add_memory s at x r words) y d
    memory-many table d words y l h =
        let xs = word_names x.name 0 words in
        let j : length (map (entry at x.kind r false) xs) ≡ words = length-map xs (entry at x.kind r false) ∙ word-count x.name 0 words in
        many-meets pins table s (map (entry at x.kind r false) xs) (taken_names xs ++ ((x.name, a_memory (record { first = length s.design.entries; words = words })) ∷ [])) y d
        (lt-ltb 1048576 _ (omega (arith, l, j))) h
