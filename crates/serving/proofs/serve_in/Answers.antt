-- The order is chosen by the test.
use Rattle.serving.proofs.Named.{serve_as}
use Rattle.serving.proofs.serve_in.Goals as goal

pub serve_dealt-requires : goal.serve_dealt-requires
serve_dealt-requires c = serve_as _ _ _ _ _ _ _ _ c.if-dealt.true c.requires

pub returns-then-dealt : goal.returns-then-dealt
returns-then-dealt c = rw c.if-dealt.true c.serve_dealt.ensures

pub serve-requires : goal.serve-requires
serve-requires c = serve_as _ _ _ _ _ _ _ _ c.if-dealt.false c.requires

pub returns : goal.returns
returns c = rw c.if-dealt.false c.serve.ensures
