-- The canonical bytes of what goes on are at least as many: a seam, joined meanings, a flat list.
use Rattle.std.proofs.Common.{◌≡◌, ◌≤◌, List, [], ◌∷◌, ◌++◌, length, map, drop, refl, sym, ap, ◌∙◌, arith}
use Rattle.std.proofs.lemmas.List.{map-append}
use Rattle.schema.specs.Messages.{profile, scope, resource, resource_profiles}
use Rattle.meaning.specs.Tree.{Tree}
use Rattle.meaning.specs.Message.{meaning_text}
use Rattle.meaning.proofs.Soundness.{records_sound}
use Rattle.operations.specs.Outlines.{Item, outline}
use Rattle.operations.specs.Seams.{seam, join_onto, join, under_last, repeated_heads, repeated_resource}
use Rattle.operations.specs.Flat.{FlatProfile, items, group}
use Rattle.operations.specs.Cuts.{size_of}
use Rattle.operations.proofs.Longer.{longer}
use Rattle.operations.proofs.Grouped.{bared, group-outline, items-append}
use Rattle.operations.proofs.Joining.{seam-outline, under-outline, join-append}

-- with the schema's records
pub longer_records : (ms ns : List Tree) (more : List Item) → outline ns ≡ outline ms ++ more
    → length (meaning_text resource_profiles ms) ≤ length (meaning_text resource_profiles ns)
longer_records ms ns more e = longer resource scope profile tt tt tt refl refl records_sound ms ns more e

pub seam-longer : (a b : List Tree) → length (meaning_text resource_profiles a) ≤ length (meaning_text resource_profiles (seam a b))
seam-longer a b = longer_records a (seam a b) (drop (repeated_heads a b) (outline b)) (seam-outline a b)

pub under-longer : (a b : List Tree) → length (meaning_text resource_profiles a) ≤ length (meaning_text resource_profiles (under_last a b))
under-longer a b = longer_records a (under_last a b) (drop (repeated_resource a b) (outline b)) (under-outline a b)

join_onto-longer : (ns : List (List Tree)) (a : List Tree) → length (meaning_text resource_profiles a) ≤ length (meaning_text resource_profiles (join_onto a ns))
join_onto-longer [] a = omega arith
join_onto-longer (n ∷ ns) a = let x = seam-longer a n in let y = join_onto-longer ns (seam a n) in omega arith

pub join-longer : (ms ns : List (List Tree)) → length (meaning_text resource_profiles (join ms)) ≤ length (meaning_text resource_profiles (join (ms ++ ns)))
join-longer ms ns = let x = join_onto-longer ns (join ms) in rw (join-append ms ns []) x

pub prefix-shorter : (l more : List FlatProfile) → size_of l ≤ size_of (l ++ more)
prefix-shorter l more =
    let r = items-append l more in
    longer_records (group l) (group (l ++ more)) (map bared r.0)
    (group-outline (l ++ more) ∙ ap (map bared) r.1 ∙ map-append bared (items l) r.0 ∙ ap (λ x. x ++ map bared r.0) (sym (group-outline l)))
