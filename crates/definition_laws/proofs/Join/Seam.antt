-- Things that touch become one: merging a list in two parts, and the seam's associativity. Assumes nothing.
use mathlib.Core.Path.{◌≡◌, refl, sym, ◌∙◌, ap}
use mathlib.Core.Bool.{Bool, true, false, false≢true}
use mathlib.Core.List.{List, [], ◌∷◌, ◌++◌, map}
use Rattle.definition.specs.Records.{Role, top, raw, inner, touching, glue, merge}
use Rattle.definition.specs.Join.{seam}

-- what touches has one role
pub touch_eq : (m n : Role) → touching m n ≡ true → m ≡ n
unfolding touching
touch_eq inner n e = absurd (false≢true e)
touch_eq top top e = refl
touch_eq top raw e = absurd (false≢true e)
touch_eq top inner e = absurd (false≢true e)
touch_eq raw top e = absurd (false≢true e)
touch_eq raw raw e = refl
touch_eq raw inner e = absurd (false≢true e)

module _ {A : Type 0} (role : A → Role) (both : A → A → A) where
  pub glue_true : (a b : A) (bs : List A) → touching (role a) (role b) ≡ true → glue role both a (b ∷ bs) ≡ both a b ∷ bs
  unfolding glue
  glue_true a b bs e = rw (e, glue)

  pub glue_false : (a b : A) (bs : List A) → touching (role a) (role b) ≡ false → glue role both a (b ∷ bs) ≡ a ∷ b ∷ bs
  unfolding glue
  glue_false a b bs e = rw (e, glue)

module _ {A : Type 0} (role : A → Role) (both : A → A → A)
    (kept : (a b : A) → role (both a b) ≡ role a)
    (assoc : (a b c : A) → both (both a b) c ≡ both a (both b c)) where
  touch_both_left : (a b c : A) → touching (role (both a b)) (role c) ≡ touching (role a) (role c)
  touch_both_left a b c = rw kept

  touch_both_right : (a b c : A) → touching (role a) (role (both b c)) ≡ touching (role a) (role b)
  touch_both_right a b c = rw kept

  -- a and b touch: gluing b, then a, is gluing both
  pub glue_both : (a b : A) (zs : List A) → touching (role a) (role b) ≡ true → glue role both a (glue role both b zs) ≡ glue role both (both a b) zs
  unfolding glue
  glue_both a b [] e = glue_true role both a b [] e
  glue_both a b (z ∷ zs) e = go (touching (role b) (role z)) refl
    where
      same : touching (role (both a b)) (role z) ≡ touching (role b) (role z)
      same = touch_both_left a b z ∙ ap (λ m. touching m (role z)) (touch_eq (role a) (role b) e)

      go : (t : Bool) → touching (role b) (role z) ≡ t → glue role both a (glue role both b (z ∷ zs)) ≡ glue role both (both a b) (z ∷ zs)
      go true t =
          ap (glue role both a) (glue_true role both b z zs t)
          ∙ glue_true role both a (both b z) zs (touch_both_right a b z ∙ e)
          ∙ ap (λ x. x ∷ zs) (sym (assoc a b z))
          ∙ sym (glue_true role both (both a b) z zs (same ∙ t))
      go false t =
          ap (glue role both a) (glue_false role both b z zs t)
          ∙ glue_true role both a b (z ∷ zs) e
          ∙ sym (glue_false role both (both a b) z zs (same ∙ t))

  -- a and b do not touch: a stays before what is glued to b
  glue_apart : (a b : A) (zs : List A) → touching (role a) (role b) ≡ false → glue role both a (glue role both b zs) ≡ a ∷ glue role both b zs
  unfolding glue
  glue_apart a b [] e = glue_false role both a b [] e
  glue_apart a b (z ∷ zs) e = go (touching (role b) (role z)) refl
    where
      go : (t : Bool) → touching (role b) (role z) ≡ t → glue role both a (glue role both b (z ∷ zs)) ≡ a ∷ glue role both b (z ∷ zs)
      go true t = rw (glue_true role both b z zs t) (glue_false role both a (both b z) zs (touch_both_right a b z ∙ e))
      go false t = rw (glue_false role both b z zs t) (glue_false role both a b (z ∷ zs) e)

  -- to glue a in front of a seam is to glue it in front of the first list
  pub glue_seam : (a : A) (ys zs : List A) → glue role both a (seam role both ys zs) ≡ seam role both (glue role both a ys) zs
  unfolding glue seam
  glue_seam a [] zs = refl
  glue_seam a (b ∷ []) zs = go (touching (role a) (role b)) refl
    where
      go : (t : Bool) → touching (role a) (role b) ≡ t → glue role both a (glue role both b zs) ≡ seam role both (glue role both a (b ∷ [])) zs
      go true t = glue_both a b zs t ∙ sym (ap (λ l. seam role both l zs) (glue_true role both a b [] t))
      go false t = glue_apart a b zs t ∙ sym (ap (λ l. seam role both l zs) (glue_false role both a b [] t))
  glue_seam a (b ∷ b' ∷ bs) zs = go (touching (role a) (role b)) refl
    where
      go : (t : Bool) → touching (role a) (role b) ≡ t
          → glue role both a (b ∷ seam role both (b' ∷ bs) zs) ≡ seam role both (glue role both a (b ∷ b' ∷ bs)) zs
      go true t = glue_true role both a b (seam role both (b' ∷ bs) zs) t ∙ sym (ap (λ l. seam role both l zs) (glue_true role both a b (b' ∷ bs) t))
      go false t = glue_false role both a b (seam role both (b' ∷ bs) zs) t ∙ sym (ap (λ l. seam role both l zs) (glue_false role both a b (b' ∷ bs) t))

  -- merging two lists as one is the seam of the two merged
  pub merge_append : (xs ys : List A) → merge role both (xs ++ ys) ≡ seam role both (merge role both xs) (merge role both ys)
  unfolding merge seam
  merge_append [] ys = refl
  merge_append (x ∷ xs) ys = ap (glue role both x) (merge_append xs ys) ∙ glue_seam x (merge role both xs) (merge role both ys)

  -- a list that begins with a, and what follows: the seam keeps its first element where there is a second
  glue_cons : (a : A) (zs : List A) → (x : A) × (l : List A) × (glue role both a zs ≡ x ∷ l)
  unfolding glue
  glue_cons a [] = (a, [], refl)
  glue_cons a (z ∷ zs) = go (touching (role a) (role z)) refl
    where
      go : (t : Bool) → touching (role a) (role z) ≡ t → (x : A) × (l : List A) × (glue role both a (z ∷ zs) ≡ x ∷ l)
      go true t = (both a z, zs, glue_true role both a z zs t)
      go false t = (a, z ∷ zs, glue_false role both a z zs t)

  seam_cons : (a : A) (l ys : List A) → (x : A) × (r : List A) × (seam role both (a ∷ l) ys ≡ x ∷ r)
  unfolding seam
  seam_cons a [] ys = glue_cons a ys
  seam_cons a (b ∷ l) ys = (a, seam role both (b ∷ l) ys, refl)

  seam_keeps : (a : A) (l zs : List A) (x : A) (r : List A) → l ≡ x ∷ r → seam role both (a ∷ l) zs ≡ a ∷ seam role both l zs
  unfolding seam
  seam_keeps a l zs x r e = rw e refl

  pub seam_assoc : (xs ys zs : List A) → seam role both (seam role both xs ys) zs ≡ seam role both xs (seam role both ys zs)
  unfolding seam
  seam_assoc [] ys zs = refl
  seam_assoc (a ∷ []) ys zs = sym (glue_seam a ys zs)
  seam_assoc (a ∷ b ∷ l) ys zs =
      let c = seam_cons b l ys in
      seam_keeps a (seam role both (b ∷ l) ys) zs c.0 c.1 c.2 ∙ ap (λ r. a ∷ r) (seam_assoc (b ∷ l) ys zs)

-- a map that keeps roles and what becomes one goes through the seam
module _ {A B : Type 0} (role : A → Role) (both : A → A → A) (role' : B → Role) (both' : B → B → B) (f : A → B)
    (roles : (a : A) → role' (f a) ≡ role a) (boths : (a b : A) → f (both a b) ≡ both' (f a) (f b)) where
  pub map_glue : (a : A) (bs : List A) → map f (glue role both a bs) ≡ glue role' both' (f a) (map f bs)
  unfolding glue
  map_glue a [] = refl
  map_glue a (b ∷ bs) = go (touching (role a) (role b)) refl
    where
      same : touching (role' (f a)) (role' (f b)) ≡ touching (role a) (role b)
      same = rw (roles a, roles b)

      go : (t : Bool) → touching (role a) (role b) ≡ t → map f (glue role both a (b ∷ bs)) ≡ glue role' both' (f a) (f b ∷ map f bs)
      go true t = ap (map f) (glue_true role both a b bs t) ∙ ap (λ x. x ∷ map f bs) (boths a b) ∙ sym (glue_true role' both' (f a) (f b) (map f bs) (same ∙ t))
      go false t = ap (map f) (glue_false role both a b bs t) ∙ sym (glue_false role' both' (f a) (f b) (map f bs) (same ∙ t))

  pub map_seam : (xs ys : List A) → map f (seam role both xs ys) ≡ seam role' both' (map f xs) (map f ys)
  unfolding seam
  map_seam [] ys = refl
  map_seam (a ∷ []) ys = map_glue a ys
  map_seam (a ∷ b ∷ l) ys = ap (λ r. f a ∷ r) (map_seam (b ∷ l) ys)
