-- The steps of a depth-first walk.
use Rattle.std.proofs.Common.{◌≡◌, ◌≢◌, ◌∙◌, ◌⊎◌, inl, inr, sym, ap, subst, refl, arith, ℕ, ◌<◌, ◌≤◌, ◌+◌, List, [], ◌∷◌, ◌++◌, append_assoc, append-nil, Some, slice_get, Bool, true, false, length, take, get_or, set, map, nat_lt, ltb-true, ltb-false, cond, ◌↔◌}
use Rattle.std.specs.List.{Contains, AllPairs}
use Rattle.std.proofs.lemmas.Option.{slice_get_within}
use Rattle.std.proofs.lemmas.List.{take_all, take-append-le, length-set, length-append, map-append}
use Rattle.std.proofs.lemmas.List.Elements.{Contains-push, Contains-push_cases, Contains-append_left, Contains-get_or}
use Rattle.std.proofs.lemmas.List.Quantifiers.{all_pairs_push}
use Rattle.driver_loops.specs.declared.walk.Step.{Step}
use Rattle.driver_loops.specs.Links.{IsLink, ends_of}
use Rattle.driver_loops.specs.Orders.{Reaches, here, link, IsDepthFirst, IsClosed}
use Rattle.driver_loops.specs.Walks.{IsMarked, is_unmarked, first_step, IsDone, LeadsOn, IsWay, AreFollowed, IsWalk}
use Rattle.driver_loops.proofs.Members.{contains_get, get_contains, nothing_in, get_left, get_last, last_pair, front_pairs, unmarked_at, marked_at, mark_here, mark_stays, mark_cases, unmarked-not}
use Rattle.driver_loops.proofs.Ways.{closed_reaches}

-- one more vertex at the order's end
depth_first_more : (ls : List (List ℕ)) (o : List ℕ) (v : ℕ) → IsDepthFirst ls o
    → ((u x : ℕ) → Contains (o ++ v ∷ []) u → IsLink ls u x → Contains (o ++ v ∷ []) x ⊎ Reaches ls x v) → IsDepthFirst ls (o ++ v ∷ [])
depth_first_more ls o v old new i y u x at h l = go (nat_lt i (length o)) refl
  where
    n : length (o ++ v ∷ []) ≡ length o + 1
    n = length-append o (v ∷ [])

    go : (b : Bool) → nat_lt i (length o) ≡ b → Contains (take (i + 1) (o ++ v ∷ [])) x ⊎ Reaches ls x y
    go true t =
        let lt = ltb-true i (length o) t in
        let same : take (i + 1) (o ++ v ∷ []) ≡ take (i + 1) o = take-append-le (i + 1) o (v ∷ []) (omega arith) in
        subst (λ xs. Contains xs x ⊎ Reaches ls x y) (sym same)
        (old i y u x (sym (get_left o (v ∷ []) i lt) ∙ at) (subst (λ xs. Contains xs u) same h) l)
    go false t =
        let ge = ltb-false i (length o) t in
        let last = get_last o v y i ge at in
        let all : take (i + 1) (o ++ v ∷ []) ≡ o ++ v ∷ [] = take_all (i + 1) (o ++ v ∷ []) (let e = last.0 in let m = n in omega arith) in
        subst (λ z. Contains (take (i + 1) (o ++ v ∷ [])) x ⊎ Reaches ls x z) last.1
        (subst (λ xs. Contains xs x ⊎ Reaches ls x v) (sym all) (new u x (subst (λ xs. Contains xs u) all h) l))

module _ (ls : List (List ℕ)) (base : List ℕ) (root : ℕ) where
  -- the way's last vertex is done
  pub ended : (e : List Bool) (vs o : List ℕ) (v : ℕ) → IsWay ls base root e (vs ++ v ∷ []) o → ((w : ℕ) → IsLink ls v w → IsMarked e w)
      → IsWay ls base root e vs (o ++ v ∷ [])
  ended e vs o v is ends = record {
    size = is.size;
    marked = marked;
    on_way = λ x h. is.on_way x (Contains-append_left vs (v ∷ []) x h);
    met = met;
    once = all_pairs_push (λ x y. x ≢ y) o v is.once (λ k d lt same. is.apart v (Contains-push vs v) (subst (λ x. Contains o x) same (Contains-get_or o k d lt)));
    apart = λ x h there. elim (Contains-push_cases o v x there) [
      | inl k ↦ is.apart x (Contains-append_left vs (v ∷ []) x h) k
      | inr same ↦ (last_pair (LeadsOn ls) vs x v is.leads h).other (sym same)
    ];
    leads = front_pairs (LeadsOn ls) vs v is.leads;
    closed = closed;
    depth_first = depth_first_more ls o v is.depth_first (λ u x h l. elim (met x (closed u x h l)) [
      | inl k ↦ inl k
      | inr k ↦ inr (last_pair (LeadsOn ls) vs x v is.leads k).way
    ]);
    longer = (is.longer.0 ++ v ∷ [], ap (λ xs. xs ++ v ∷ []) is.longer.1 ∙ append_assoc base is.longer.0 (v ∷ []));
    base_closed = is.base_closed;
    begun = is.begun;
    only = is.only;
  }
    where
      marked : (x : ℕ) → Contains (o ++ v ∷ []) x → IsMarked e x
      marked x h = elim (Contains-push_cases o v x h) [
        | inl k ↦ is.marked x k
        | inr same ↦ subst (IsMarked e) same (is.on_way v (Contains-push vs v))
      ]

      met : (x : ℕ) → IsMarked e x → Contains (o ++ v ∷ []) x ⊎ Contains vs x
      met x h = elim (is.met x h) [
        | inl k ↦ inl (Contains-append_left o (v ∷ []) x k)
        | inr k ↦ elim (Contains-push_cases vs v x k) [
          | inl j ↦ inr j
          | inr same ↦ inl (subst (λ y. Contains (o ++ v ∷ []) y) same (Contains-push o v))
        ]
      ]

      closed : (u x : ℕ) → Contains (o ++ v ∷ []) u → IsLink ls u x → IsMarked e x
      closed u x h l = elim (Contains-push_cases o v u h) [
        | inl k ↦ is.closed u x k l
        | inr same ↦ ends x (subst (λ y. IsLink ls y x) (sym same) l)
      ]

  -- a vertex is entered to which all on the way lead
  pub entered_more : (e : List Bool) (vs o : List ℕ) (x : ℕ) → IsWay ls base root e vs o → x < length ls → slice_get e x ≡ Some false
      → ((v : ℕ) → Contains vs v → Reaches ls v x) → Contains base x ⊎ ((root < length ls) × Reaches ls root x)
      → IsWay ls base root (set e x true) (vs ++ x ∷ []) o
  entered_more e vs o x is lt fresh leads from = record {
    size = length-set e x true ∙ is.size;
    marked = λ v h. mark_stays e x v (is.marked v h);
    on_way = λ v h. elim (Contains-push_cases vs x v h) [
      | inl k ↦ mark_stays e x v (is.on_way v k)
      | inr same ↦ subst (IsMarked (set e x true)) same (mark_here e x (let n = is.size in omega arith))
    ];
    met = λ v h. elim (mark_cases e x v h) [
      | inl k ↦ elim (is.met v k) [ inl j ↦ inl j | inr j ↦ inr (Contains-append_left vs (x ∷ []) v j) ]
      | inr same ↦ inr (subst (λ y. Contains (vs ++ x ∷ []) y) same (Contains-push vs x))
    ];
    once = is.once;
    apart = λ v h there. elim (Contains-push_cases vs x v h) [
      | inl k ↦ is.apart v k there
      | inr same ↦ unmarked-not e x fresh (subst (IsMarked e) (sym same) (is.marked v there))
    ];
    leads = all_pairs_push (LeadsOn ls) vs x is.leads (λ k d within. record {
      way = leads (get_or vs k d) (Contains-get_or vs k d within);
      other = λ same. unmarked-not e x fresh (subst (IsMarked e) same (is.on_way (get_or vs k d) (Contains-get_or vs k d within)));
    });
    closed = λ v y h l. mark_stays e x y (is.closed v y h l);
    depth_first = is.depth_first;
    longer = is.longer;
    base_closed = is.base_closed;
    begun = λ h. mark_stays e x root (is.begun h);
    only = λ v h. elim (mark_cases e x v h) [
      | inl k ↦ is.only v k
      | inr same ↦ subst (λ y. Contains base y ⊎ ((root < length ls) × Reaches ls root y)) same from
    ];
  }

  -- a link of the way's last vertex leads to one that is new
  pub linked : (e : List Bool) (vs o : List ℕ) (v x : ℕ) → IsWay ls base root e (vs ++ v ∷ []) o → IsLink ls v x → slice_get e x ≡ Some false
      → IsWay ls base root (set e x true) ((vs ++ v ∷ []) ++ x ∷ []) o
  linked e vs o v x is l fresh = entered_more e (vs ++ v ∷ []) o x is l.vertex fresh
      (λ y h. elim (Contains-push_cases vs v y h) [
        | inl k ↦ link (last_pair (LeadsOn ls) vs y v is.leads k).way l
        | inr same ↦ subst (λ z. Reaches ls z x) same (link here l)
      ])
      (elim (is.only v (is.on_way v (Contains-push vs v))) [
        | inl k ↦ inl (is.base_closed v x k l)
        | inr k ↦ inr (k.0, link k.1 l)
      ])

  -- ---- the links that were followed

  followed_more : (e new : List Bool) (ys : List Step) (s : Step) (x : ℕ) → AreFollowed ls e (ys ++ s ∷ []) → ((v : ℕ) → IsMarked e v → IsMarked new v)
      → slice_get (ends_of ls s.vertex) s.followed ≡ Some x → (x < length ls → IsMarked new x)
      → AreFollowed ls new (ys ++ record { vertex = s.vertex; followed = s.followed + 1 } ∷ [])
  followed_more e new ys s x old stays at there t k y h lt is within = elim (Contains-push_cases ys (record { vertex = s.vertex; followed = s.followed + 1 }) t h) [
    | inl j ↦ stays y (old t k y (Contains-append_left ys (s ∷ []) t j) lt is within)
    | inr same ↦ go same (nat_lt k s.followed) refl
  ]
    where
      go : (record { vertex = s.vertex; followed = s.followed + 1 } ≡ t) → (b : Bool) → nat_lt k s.followed ≡ b → IsMarked new y
      go same true c =
          let n = ltb-true k s.followed c in
          let v : s.vertex ≡ t.vertex = ap (λ (z : Step). z.vertex) same in
          stays y (old s k y (Contains-push ys s) n (ap (λ z. slice_get (ends_of ls z) k) v ∙ is) within)
      go same false c =
          let n = ltb-false k s.followed c in
          let v : s.vertex ≡ t.vertex = ap (λ (z : Step). z.vertex) same in
          let f : s.followed + 1 ≡ t.followed = ap (λ (z : Step). z.followed) same in
          let m : s.followed ≡ k = omega arith in
          let e : x ≡ y = (let a = ap (λ z. slice_get (ends_of ls z) k) v in let b = ap (slice_get (ends_of ls s.vertex)) m in cc) in
          subst (IsMarked new) e (there (subst (λ z. z < length ls) (sym e) within))

  first_followed : (e : List Bool) (ys : List Step) (x : ℕ) → AreFollowed ls e ys → AreFollowed ls e (ys ++ first_step x ∷ [])
  first_followed e ys x old t k y h lt is within = elim (Contains-push_cases ys (first_step x) t h) [
    | inl j ↦ old t k y j lt is within
    | inr same ↦ absurd (let f : 0 ≡ t.followed = ap (λ (z : Step). z.followed) same in omega arith)
  ]

  -- ---- the turns

  -- no link of the last step is left
  pub turned_back : (e : List Bool) (ys : List Step) (s : Step) (o : List ℕ) → IsWalk ls base root e (ys ++ s ∷ []) o
      → length (ends_of ls s.vertex) ≤ s.followed → IsWalk ls base root e ys (o ++ s.vertex ∷ [])
  turned_back e ys s o is all = record {
    vertices = ended e (map (λ (t : Step). t.vertex) ys) o s.vertex
        (subst (λ vs. IsWay ls base root e vs o) (map-append (λ (t : Step). t.vertex) ys (s ∷ [])) is.vertices)
        (λ w l. let at = get_contains (ends_of ls s.vertex) w l.end in is.followed s at.0 w (Contains-push ys s) (let lt = at.1 in omega arith) at.2 l.vertex);
    followed = λ t k y h. is.followed t k y (Contains-append_left ys (s ∷ []) t h);
  }

  -- the last step's next link was followed
  pub turned : (e : List Bool) (ys : List Step) (s : Step) (o : List ℕ) (x : ℕ) → IsWalk ls base root e (ys ++ s ∷ []) o
      → slice_get (ends_of ls s.vertex) s.followed ≡ Some x
      → (new : List Bool) (bumped way : List Step) → new ≡ cond (is_unmarked e x) (set e x true) e
      → bumped ≡ ys ++ record { vertex = s.vertex; followed = s.followed + 1 } ∷ []
      → way ≡ cond (is_unmarked e x) (bumped ++ first_step x ∷ []) bumped
      → IsWalk ls base root new way o
  turned e ys s o x is at new bumped way marks more then = go (is_unmarked e x) refl
    where
      s' : Step
      s' = record { vertex = s.vertex; followed = s.followed + 1 }

      steps : way ≡ cond (is_unmarked e x) ((ys ++ record { vertex = s.vertex; followed = s.followed + 1 } ∷ []) ++ first_step x ∷ []) (ys ++ record { vertex = s.vertex; followed = s.followed + 1 } ∷ [])
      steps = then ∙ ap (λ zs. cond (is_unmarked e x) (zs ++ first_step x ∷ []) zs) more

      vs : List ℕ
      vs = map (λ (t : Step). t.vertex) ys

      old : IsWay ls base root e (vs ++ s.vertex ∷ []) o
      old = subst (λ zs. IsWay ls base root e zs o) (map-append (λ (t : Step). t.vertex) ys (s ∷ [])) is.vertices

      go : (b : Bool) → is_unmarked e x ≡ b → IsWalk ls base root new way o
      go true c =
          let fresh = unmarked_at e x c in
          let lt : x < length ls = (let w = slice_get_within e x false fresh in let n = old.size in omega arith) in
          let l : IsLink ls s.vertex x = record { end = contains_get (ends_of ls s.vertex) s.followed x at; vertex = lt } in
          let m : new ≡ set e x true = marks ∙ ap (λ b. cond b (set e x true) e) c in
          let p : way ≡ (ys ++ s' ∷ []) ++ first_step x ∷ [] = steps ∙ ap (λ b. cond b ((ys ++ s' ∷ []) ++ first_step x ∷ []) (ys ++ s' ∷ [])) c in
          let q : map (λ (t : Step). t.vertex) ((ys ++ s' ∷ []) ++ first_step x ∷ []) ≡ (vs ++ s.vertex ∷ []) ++ x ∷ [] =
          map-append (λ (t : Step). t.vertex) (ys ++ s' ∷ []) (first_step x ∷ []) ∙ ap (λ zs. zs ++ x ∷ []) (map-append (λ (t : Step). t.vertex) ys (s' ∷ [])) in
          subst (λ marks. IsWalk ls base root marks way o) (sym m) (subst (λ steps. IsWalk ls base root (set e x true) steps o) (sym p) record {
            vertices = subst (λ zs. IsWay ls base root (set e x true) zs o) (sym q) (linked e vs o s.vertex x old l fresh);
            followed = first_followed (set e x true) (ys ++ s' ∷ []) x
                (followed_more e (set e x true) ys s x is.followed (mark_stays e x) at (λ _. mark_here e x (slice_get_within e x false fresh)));
          })
      go false c =
          let m : new ≡ e = marks ∙ ap (λ b. cond b (set e x true) e) c in
          let p : way ≡ ys ++ s' ∷ [] = steps ∙ ap (λ b. cond b ((ys ++ s' ∷ []) ++ first_step x ∷ []) (ys ++ s' ∷ [])) c in
          subst (λ marks. IsWalk ls base root marks way o) (sym m) (subst (λ steps. IsWalk ls base root e steps o) (sym p) record {
            vertices = subst (λ zs. IsWay ls base root e zs o) (sym (map-append (λ (t : Step). t.vertex) ys (s' ∷ []))) old;
            followed = followed_more e e ys s x is.followed (λ v h. h) at (λ w. marked_at e x c (let n = old.size in omega arith));
          })

-- ---- a walk's begin and end

-- the root is entered, unless it was
pub begun : (ls : List (List ℕ)) (e : List Bool) (o : List ℕ) (root : ℕ) → IsDone ls e o → (new : List Bool) (way : List Step)
    → new ≡ cond (is_unmarked e root) (set e root true) e → way ≡ cond (is_unmarked e root) (first_step root ∷ []) [] → IsWalk ls o root new way o
begun ls e o root is new way marks steps = go (is_unmarked e root) refl
  where
    lone : AllPairs (LeadsOn ls) (root ∷ [])
    lone i j d lt within = absurd (let n : length (root ∷ []) ≡ 1 = refl in omega arith)

    none : AllPairs (LeadsOn ls) []
    none i j d lt within = absurd (omega arith)

    go : (b : Bool) → is_unmarked e root ≡ b → IsWalk ls o root new way o
    go true c =
        let fresh = unmarked_at e root c in
        let in' = slice_get_within e root false fresh in
        let lt : root < length ls = (let n = is.size in omega arith) in
        let m : new ≡ set e root true = marks ∙ ap (λ b. cond b (set e root true) e) c in
        let p : way ≡ first_step root ∷ [] = steps ∙ ap (λ b. cond b (first_step root ∷ []) []) c in
        subst (λ marks. IsWalk ls o root marks way o) (sym m) (subst (λ steps. IsWalk ls o root (set e root true) steps o) (sym p) record {
          vertices = record {
            size = length-set e root true ∙ is.size;
            marked = λ v h. mark_stays e root v (is.marked v h);
            on_way = λ v h. elim (Contains-push_cases [] root v h) [
              | inl k ↦ absurd (nothing_in v k)
              | inr same ↦ subst (IsMarked (set e root true)) same (mark_here e root in')
            ];
            met = λ v h. elim (mark_cases e root v h) [
              | inl k ↦ inl (is.met v k)
              | inr same ↦ inr (subst (λ y. Contains (root ∷ []) y) same (Contains-push [] root))
            ];
            once = is.once;
            apart = λ v h there. elim (Contains-push_cases [] root v h) [
              | inl k ↦ absurd (nothing_in v k)
              | inr same ↦ unmarked-not e root fresh (subst (IsMarked e) (sym same) (is.marked v there))
            ];
            leads = lone;
            closed = λ v w h l. mark_stays e root w (is.marked w (is.closed v w h l));
            depth_first = is.depth_first;
            longer = ([], sym (append-nil o));
            base_closed = is.closed;
            begun = λ _. mark_here e root in';
            only = λ v h. elim (mark_cases e root v h) [
              | inl k ↦ inl (is.met v k)
              | inr same ↦ inr (lt, subst (λ y. Reaches ls root y) same here)
            ];
          };
          followed = λ t k y h lt at within. elim (Contains-push_cases [] (first_step root) t h) [
            | inl j ↦ absurd (nothing_in t j)
            | inr same ↦ absurd (let f : 0 ≡ t.followed = ap (λ (z : Step). z.followed) same in omega arith)
          ];
        })
    go false c =
        let m : new ≡ e = marks ∙ ap (λ b. cond b (set e root true) e) c in
        let p : way ≡ [] = steps ∙ ap (λ b. cond b (first_step root ∷ []) []) c in
        subst (λ marks. IsWalk ls o root marks way o) (sym m) (subst (λ steps. IsWalk ls o root e steps o) (sym p) record {
          vertices = record {
            size = is.size;
            marked = is.marked;
            on_way = λ v h. absurd (nothing_in v h);
            met = λ v h. inl (is.met v h);
            once = is.once;
            apart = λ v h there. nothing_in v h;
            leads = none;
            closed = λ v w h l. is.marked w (is.closed v w h l);
            depth_first = is.depth_first;
            longer = ([], sym (append-nil o));
            base_closed = is.closed;
            begun = λ lt. marked_at e root c (let n = is.size in omega arith);
            only = λ v h. inl (is.met v h);
          };
          followed = λ t k y h lt at within. absurd (nothing_in t h);
        })

module _ (ls : List (List ℕ)) (base : List ℕ) (root : ℕ) (e : List Bool) (o : List ℕ) (is : IsWalk ls base root e [] o) where
  met : (v : ℕ) → IsMarked e v → Contains o v
  met v h = elim (is.vertices.met v h) [ inl k ↦ k | inr k ↦ absurd (nothing_in v k) ]

  closed : IsClosed ls o
  closed v w h l = met w (is.vertices.closed v w h l)

  pub all_done : IsDone ls e o
  all_done = record {
    size = is.vertices.size;
    marked = is.vertices.marked;
    met = met;
    once = is.vertices.once;
    closed = closed;
    depth_first = is.vertices.depth_first;
  }

  -- what was done before, and what the root leads to
  pub all_reached : (v : ℕ) → Contains o v ↔ (Contains base v ⊎ ((root < length ls) × Reaches ls root v))
  all_reached v = (λ h. is.vertices.only v (is.vertices.marked v h), back)
    where
      back : Contains base v ⊎ ((root < length ls) × Reaches ls root v) → Contains o v
      back (inl h) = subst (λ xs. Contains xs v) (sym is.vertices.longer.1) (Contains-append_left base is.vertices.longer.0 v h)
      back (inr h) = closed_reaches ls o root v closed (met root (is.vertices.begun h.0)) h.1
