-- What load keeps of a whole image. Assumes nothing.
use Rattle.std.proofs.Common.{◌≡◌, ℕ, ◌-◌, ◌<◌, List, IsErrAnd, Ok, Err, Result, sym, ap, ◌∙◌, arith}
use Rattle.outputs.specs.Bits.{spread}
use Rattle.outputs.specs.Kinds.{Kind}
use Rattle.machines.specs.Machines.{Machine}
use Rattle.images.specs.Steps.{Step, reads, refuses}
use Rattle.images.specs.Loads.{Head, head, whole, load}
use Rattle.loading.specs.declared.head.Head as Code
use Rattle.loading.specs.declared.held.Loaded.{Loaded}
use Rattle.loading.specs.declared.refusal.LoadRefusal.{LoadRefusal}
use Rattle.loading.specs.Refusals.{reported}
use Rattle.loading.specs.Answers.{Answers}
use Rattle.loading.specs.Heads.{head_of}
use Rattle.loading.specs.Wholes.{WholeRead}
use Rattle.loading.specs.Loading.{Takes, Loads}
use Rattle.loading.proofs.Walking.{has_read, has_refused}

module _ {O S : Type 0} (k : Kind) (meaning : O → k.Ideal) (bytes : S → List ℕ) (working : ℕ) (store : S) where
  abbrev image : Step (Machine k.Ideal)
  image = whole k (spread (bytes store)) working 0

  -- the image is refused
  pub load_refuses : (e : LoadRefusal) (r : Result (Loaded O S) LoadRefusal) → Answers (WholeRead k meaning (spread (bytes store)) working) image (Err e) → IsErrAnd r (λ y. y ≡ e) → Loads k meaning bytes working store r
  unfolding load
  load_refuses e (Ok l) h b = absurd b
  load_refuses e (Err y) h b = has_refused (WholeRead k meaning (spread (bytes store)) working) image e h ∙ ap {A = LoadRefusal} {B = Step (Machine k.Ideal)} (λ z. refuses (reported z)) (sym b)

  -- the image is taken
  pub load_reads : (loaded : Loaded O S) (front : Code.Head O) (p : ℕ) → loaded.store ≡ store → 0 < front.states → loaded.start ≡ front.states - 1 → loaded.index ≡ front.index → loaded.start_output ≡ front.start_output →
      Answers (WholeRead k meaning (spread (bytes store)) working) image (Ok (front, p)) → Takes k meaning bytes working store loaded
  unfolding load
  load_reads loaded front p same some_states start index output h =
      let f = has_read (WholeRead k meaning (spread (bytes store)) working) image (front, p) h in
      let taken : load k working (bytes store) ≡ reads f.0 p = f.1.0 in
      record {
        same = same;
        machine = f.0;
        behind = p;
        taken = taken;
        holds = record {
          working = working;
          behind = p;
          taken = ap {A = S} {B = Step (Machine k.Ideal)} (λ s. load k working (bytes s)) same ∙ taken;
          front = head_of meaning front;
          front_read = ap {A = S} {B = Step (Head k.Ideal)} (λ s. head k (spread (bytes s)) working 0) same ∙ f.1.1.front_read;
          start = start ∙ sym f.1.1.start;
          many = f.1.1.many ∙ omega (arith, start);
          index = index;
          start_output = ap meaning output ∙ sym f.1.1.start_output;
        };
      }
