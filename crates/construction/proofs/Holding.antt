-- What is held after some pairs. Assumes ascending keys and storable outputs.
use Rattle.std.proofs.Common.{◌≡◌, ℕ, true, [], ◌∷◌, ◌++◌, sym, refl, ap, ◌∙◌, subst, append_assoc, append-nil, arith}
use mathlib.Core.Option.{some}
use Rattle.outputs.specs.Kinds.{Kind, Laws}
use Rattle.machines.specs.Keys.{Key}
use Rattle.machines.specs.Pairs.{Pairs, Ascending, AllStorable}
use Rattle.machines.specs.Memory.{newest}
use Rattle.machines.proofs.OneMore.{newest_end}
use Rattle.construction.specs.Building.{add_all, held_after}
use Rattle.construction.proofs.Lists.{each_left}
use Rattle.construction.proofs.OneMore.{leaves, newest_below, ascending_left}
use Rattle.construction.proofs.Adding.{held_of, first_is, add_is}

module _ (k : Kind) (laws : Laws k) where
  add_all_is : (P Q : Pairs k.Ideal) (w v : Key) → Ascending (P ++ Q) → AllStorable k (P ++ Q) → newest P ≡ some w → newest (P ++ Q) ≡ some v → add_all k (held_of k P w) Q ≡ held_of k (P ++ Q) v
  add_all_is P [] w v h s n m =
      let p : P ≡ P ++ [] = sym (append-nil P) in
      let o : some w ≡ some v = sym n ∙ ap newest p ∙ m in
      let q : w ≡ v = cc in
      λ i. held_of k (p i) (q i)
  add_all_is P (e ∷ Q) w v h s n m =
      let p : (P ++ (e ∷ [])) ++ Q ≡ P ++ (e ∷ Q) = append_assoc P (e ∷ []) Q in
      let h' : Ascending ((P ++ (e ∷ [])) ++ Q) = subst Ascending (sym p) h in
      let s' : AllStorable k ((P ++ (e ∷ [])) ++ Q) = subst (AllStorable k) (sym p) s in
      ap (λ r. add_all k r Q) (add_is k laws P e (record {
        ascending = ascending_left (P ++ (e ∷ [])) Q h';
        storable = each_left (λ x. k.storable x.1 ≡ true) (P ++ (e ∷ [])) Q s';
        low = w;
        newest_is = n;
        leaves = leaves w e.0 (newest_below P e Q w h n);
      }))
      ∙ add_all_is (P ++ (e ∷ [])) Q e.0 v h' s' (newest_end P e) (ap newest p ∙ m)
      ∙ ap (λ R. held_of k R v) p

  pub held_is : (P : Pairs k.Ideal) (w : Key) → Ascending P → AllStorable k P → newest P ≡ some w → held_after k P ≡ held_of k P w
  held_is [] w h s n = let o : ◌≡◌ {A = ℕ} 0 1 = cc in absurd (omega arith)
  held_is (p ∷ P) w h s n = ap (λ r. add_all k r P) (first_is k laws p) ∙ add_all_is (p ∷ []) P p.0 w h s refl n
