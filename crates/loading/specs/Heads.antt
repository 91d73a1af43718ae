-- The code's head as the head of an image. Assumes nothing.
use Rattle.images.specs.Loads.{Head}
use Rattle.loading.specs.declared.head.Head as Code

-- the head that the code's head stands for
abbrev pub head_of : {O X : Type 0} → (O → X) → Code.Head O → Head X
head_of m h = record { states = h.states; arcs_place = h.arcs_place; arcs = h.arcs; keys_place = h.keys_place; keys = h.keys; start_output = m h.start_output; index = h.index }
