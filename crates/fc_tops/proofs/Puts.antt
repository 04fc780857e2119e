-- Entries that are put into a map.
use Rattle.std.proofs.Common.{◌≡◌, List, [], ◌∷◌, ◌++◌, Option, None, Some, refl, sym, ◌∙◌, ap}
use Rattle.std.specs.Prelude.{option_map}
use Rattle.fc_spec.specs.messages.Trace.{Sent}
use Rattle.fc_spec.specs.messages.Lengths.{Lengths, put, put_all}

put_last : (es : List Sent) (e : Sent) (m : Lengths) → put_all (es ++ e ∷ []) m ≡ put e (put_all es m)
put_last [] e m = refl
put_last (f ∷ es) e m = put_last es e (put f m)

put_joined : (es fs : List Sent) (m : Lengths) → put_all (es ++ fs) m ≡ put_all fs (put_all es m)
put_joined [] fs m = refl
put_joined (e ∷ es) fs m = put_joined es fs (put e m)

pub nothing_put : (o : Option Lengths) → o ≡ option_map (put_all []) o
nothing_put None = refl
nothing_put (Some m) = refl

pub put_more : (es : List Sent) (e : Sent) (old now new : Option Lengths) → now ≡ option_map (put_all es) old → new ≡ option_map (put e) now → new ≡ option_map (put_all (es ++ e ∷ [])) old
put_more es e None now new so_far is = is ∙ ap (option_map (put e)) so_far
put_more es e (Some m) now new so_far is = is ∙ ap (option_map (put e)) so_far ∙ ap Some (sym (put_last es e m))

pub put_both : (es fs : List Sent) (old now new : Option Lengths) → now ≡ option_map (put_all es) old → new ≡ option_map (put_all fs) now → new ≡ option_map (put_all (es ++ fs)) old
put_both es fs None now new so_far is = is ∙ ap (option_map (put_all fs)) so_far
put_both es fs (Some m) now new so_far is = is ∙ ap (option_map (put_all fs)) so_far ∙ ap Some (sym (put_joined es fs m))
