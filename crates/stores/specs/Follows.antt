-- One store after another: the same memory, after appends alone.
use Rattle.std.specs.Prelude.{◌≡◌, ℕ, ◌+◌, ◌-◌, ◌≤◌, List, take, drop, refl}
use Rattle.std.proofs.Common.{◌∙◌, ap, sym, arith}
use Rattle.std.proofs.lemmas.List.{take-take, drop-drop}

-- a relation that holds over no call, and over one run of calls after another
pub record Chained {X : Type 0} (follows : X → X → Type 0) : Type 0 where
  pub stay : (s : X) → follows s s
  pub more : (s t u : X) → follows s t → follows t u → follows s u

-- the same memory: the bytes used before stay, and what is not used after stays
pub record Grown {N : Type 0} (name : N) (used : ℕ) (memory : List ℕ) (name' : N) (used' : ℕ) (memory' : List ℕ) : Type 0 where
  pub same : name' ≡ name
  pub grows : used ≤ used'
  pub kept : take used memory' ≡ take used memory
  pub rest : drop used' memory' ≡ drop used' memory

pub grown_stay : {N : Type 0} (name : N) (used : ℕ) (memory : List ℕ) → Grown name used memory name used memory
grown_stay name used memory = record { same = refl; grows = omega arith; kept = refl; rest = refl }

pub grown_more : {N : Type 0} (name name' name'' : N) (used used' used'' : ℕ) (memory memory' memory'' : List ℕ) →
    Grown name used memory name' used' memory' → Grown name' used' memory' name'' used'' memory'' → Grown name used memory name'' used'' memory''
grown_more name name' name'' used used' used'' memory memory' memory'' a b = record {
  same = b.same ∙ a.same;
  grows = omega arith;
  kept =
      let m : used ≤ used' = a.grows in
      sym (take-take used used' memory'' m) ∙ ap (take used) b.kept ∙ take-take used used' memory' m ∙ a.kept;
  rest =
      let e : used'' ≡ used' + (used'' - used') = omega arith in
      b.rest ∙ ap (λ (z : ℕ). drop z memory') e ∙ sym (drop-drop (used'' - used') used' memory')
      ∙ ap (drop (used'' - used')) a.rest ∙ drop-drop (used'' - used') used' memory ∙ ap (λ (z : ℕ). drop z memory) (sym e);
}

-- the same mark, of a reference or a place, beside a store that follows
pub record Joined {N X : Type 0} (follows : X → X → Type 0) (mark : N) (store : X) (mark' : N) (store' : X) : Type 0 where
  pub same : mark' ≡ mark
  pub grown : follows store store'

pub joined_stay : {N X : Type 0} {follows : X → X → Type 0} → Chained follows → (mark : N) (store : X) → Joined follows mark store mark store
joined_stay chained mark store = record { same = refl; grown = chained.stay store }

pub joined_more : {N X : Type 0} {follows : X → X → Type 0} → Chained follows → (mark mark' mark'' : N) (store store' store'' : X) →
    Joined follows mark store mark' store' → Joined follows mark' store' mark'' store'' → Joined follows mark store mark'' store''
joined_more chained mark mark' mark'' store store' store'' a b = record { same = b.same ∙ a.same; grown = chained.more store store' store'' a.grown b.grown }
