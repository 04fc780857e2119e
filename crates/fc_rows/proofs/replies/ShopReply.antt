-- What the shop replies.
use Rattle.std.specs.Prelude.{◌≡◌, [], ◌∷◌, refl, codes}
use Rattle.fc_spec.specs.replies.Distributed.{distributed}
use Rattle.fc_spec.specs.scripts.Lines.{reply_line}
use Rattle.fc_rows.proofs.Words.{written, BothSay}
use Rattle.fc_rows.proofs.replies.Shop.{products, request}

-- no limit cuts wrongly here, so a single index says the same
pub multi_select : BothSay request products
    (codes "{\"brands\":{\"buckets\":[{\"count\":2,\"total\":25,\"val\":\"acme\"},{\"count\":2,\"total\":145,\"val\":\"orb\"},{\"count\":2,\"total\":85,\"val\":\"zen\"}]},\"colors\":{\"buckets\":[{\"count\":4,\"val\":\"red\"},{\"count\":3,\"val\":\"blue\"},{\"count\":2,\"val\":\"green\"}]},\"count\":4,\"prices\":{\"buckets\":[{\"count\":2,\"makers\":{\"buckets\":[{\"count\":2,\"val\":\"acme\"}]},\"val\":0},{\"count\":2,\"makers\":{\"buckets\":[{\"count\":2,\"val\":\"zen\"}]},\"val\":40}]},\"total\":110}")
unfolding written
multi_select = (refl, refl)

pub line : reply_line (distributed request products) (1 ∷ 1 ∷ []) (codes "shop")
    ≡ codes "{\"facets\":{\"brands\":{\"buckets\":[{\"count\":2,\"total\":25,\"val\":\"acme\"},{\"count\":2,\"total\":145,\"val\":\"orb\"},{\"count\":2,\"total\":85,\"val\":\"zen\"}]},\"colors\":{\"buckets\":[{\"count\":4,\"val\":\"red\"},{\"count\":3,\"val\":\"blue\"},{\"count\":2,\"val\":\"green\"}]},\"count\":4,\"prices\":{\"buckets\":[{\"count\":2,\"makers\":{\"buckets\":[{\"count\":2,\"val\":\"acme\"}]},\"val\":0},{\"count\":2,\"makers\":{\"buckets\":[{\"count\":2,\"val\":\"zen\"}]},\"val\":40}]},\"total\":110},\"generations\":[1,1],\"session\":\"shop\"}\n"
unfolding written
line = refl
