-- The demo without documents, and with two.
use Rattle.std.proofs.Common.{◌≡◌, ◌++◌, refl}
use Rattle.std.specs.Prelude.{codes}
use Rattle.std.specs.Fmt.{digits}
use Rattle.fc_demo.specs.Demo.{demo_script}

pub without_documents : demo_script 0 ≡
    codes "{\"schema\":{\"shards\":4,\"fields\":{\"brand\":\"string\",\"price\":\"plong\",\"tags\":\"strings\"}}}\n"
    ++ codes "{\"commit\":{}}\n{\"sync\":{}}\n"
    ++ codes "{\"search\":{\"session\":\"demo\",\"request\":{\"facet\":{\"brands\":{\"type\":\"terms\",\"field\":\"brand\",\"limit\":3,\"refine\":true,\"facet\":{\"total\":\"sum(price)\"}},\"tags\":{\"type\":\"terms\",\"field\":\"tags\",\"limit\":-1,\"sort\":\"index\"}}}}}\n"
without_documents = refl

pub of_two_documents : demo_script 2 ≡
    codes "{\"schema\":{\"shards\":4,\"fields\":{\"brand\":\"string\",\"price\":\"plong\",\"tags\":\"strings\"}}}\n"
    ++ codes "{\"add\":{\"shard\":0,\"doc\":{\"id\":\"d0\",\"brand\":\"b0\",\"price\":0,\"tags\":[\"t0\",\"t0\"]}}}\n"
    ++ codes "{\"add\":{\"shard\":1,\"doc\":{\"id\":\"d1\",\"brand\":\"b7\",\"price\":31,\"tags\":[\"t1\",\"t1\"]}}}\n"
    ++ codes "{\"commit\":{}}\n{\"sync\":{}}\n"
    ++ codes "{\"search\":{\"session\":\"demo\",\"request\":{\"facet\":{\"brands\":{\"type\":\"terms\",\"field\":\"brand\",\"limit\":3,\"refine\":true,\"facet\":{\"total\":\"sum(price)\"}},\"tags\":{\"type\":\"terms\",\"field\":\"tags\",\"limit\":-1,\"sort\":\"index\"}}}}}\n"
unfolding digits
of_two_documents = refl
