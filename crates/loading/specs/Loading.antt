-- What load answers, and what a loaded store holds. Assumes nothing.
use Rattle.std.specs.Prelude.{◌≡◌, ℕ, ◌+◌, List, length, Ok, Err, Result}
use Rattle.outputs.specs.Bits.{spread}
use Rattle.outputs.specs.Kinds.{Kind}
use Rattle.machines.specs.Machines.{Machine}
use Rattle.images.specs.Steps.{reads, refuses}
use Rattle.images.specs.Loads.{Head, head, load as load_step}
use Rattle.loading.specs.declared.held.Loaded.{Loaded}
use Rattle.loading.specs.declared.refusal.LoadRefusal.{LoadRefusal}
use Rattle.loading.specs.Refusals.{reported}

-- a loaded store holds a machine, and keeps of the image's head what the bytes say
pub record Holds {O S : Type 0} (k : Kind) (meaning : O → k.Ideal) (bytes : S → List ℕ) (loaded : Loaded O S) (machine : Machine k.Ideal) : Type 0 where
  pub working : ℕ
  pub behind : ℕ
  pub taken : load_step k working (bytes loaded.store) ≡ reads machine behind
  pub front : Head k.Ideal
  pub front_read : head k (spread (bytes loaded.store)) working 0 ≡ reads front front.index
  pub start : loaded.start ≡ machine.start
  pub many : length machine.states ≡ loaded.start + 1
  pub index : loaded.index ≡ front.index
  pub start_output : meaning loaded.start_output ≡ machine.start_output

-- the store that was given is taken: its bytes hold a machine, for so many working bytes
pub record Takes {O S : Type 0} (k : Kind) (meaning : O → k.Ideal) (bytes : S → List ℕ) (working : ℕ) (store : S) (loaded : Loaded O S) : Type 0 where
  pub same : loaded.store ≡ store
  pub machine : Machine k.Ideal
  pub behind : ℕ
  pub taken : load_step k working (bytes store) ≡ reads machine behind
  pub holds : Holds k meaning bytes loaded machine

-- load takes a store exactly if its bytes hold a machine, and else refuses as the definition does
abbrev pub Loads : {O S : Type 0} (k : Kind) → (O → k.Ideal) → (S → List ℕ) → ℕ → S → Result (Loaded O S) LoadRefusal → Type 0
Loads k meaning bytes working store (Ok loaded) = Takes k meaning bytes working store loaded
Loads k meaning bytes working store (Err e) = load_step k working (bytes store) ≡ refuses (reported e)
