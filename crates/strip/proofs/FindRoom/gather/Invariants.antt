use Rattle.std.proofs.Common.{◌≡◌, map, take, None, vec_items, vec_len}
use Rattle.stack.specs.Frames.{chain, stretch_of}
use Rattle.strip.specs.Finds.{parts_of}
use Rattle.strip.proofs.FindRoom.gather.Given as goal

abbrev pub invariant-loop-f : goal.invariant-loop-f
invariant-loop-f l = record {
  items : map stretch_of (vec_items l.self.stretches) ≡ parts_of (chain None (take l.f-index (vec_items l.search.frames)));
  len : vec_len l.self.stretches ≡ l.f-index;
}
