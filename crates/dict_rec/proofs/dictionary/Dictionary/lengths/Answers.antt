use Rattle.std.proofs.Common.{◌≡◌, length, map, sym, ◌∙◌}
use Rattle.std.proofs.lemmas.List.{length-map}
use Rattle.dict_rec.specs.Views.{mapping_view, location_view, function_view, link_view, attribute_view, stack_view}
use Rattle.dict_rec.proofs.dictionary.Dictionary.lengths.Goals as goal

pub returns : goal.returns
returns c =
    let d = c.args.self.now in
    let m : c.len.result ≡ length (map mapping_view d.mapping_table) = c.len.ensures ∙ sym (length-map d.mapping_table mapping_view) in
    let l : c.len-2.result ≡ length (map location_view d.location_table) = c.len-2.ensures ∙ sym (length-map d.location_table location_view) in
    let f : c.len-3.result ≡ length (map function_view d.function_table) = c.len-3.ensures ∙ sym (length-map d.function_table function_view) in
    let k : c.len-4.result ≡ length (map link_view d.link_table) = c.len-4.ensures ∙ sym (length-map d.link_table link_view) in
    let s : c.len-5.result ≡ length d.string_table = c.len-5.ensures in
    let a : c.len-6.result ≡ length (map attribute_view d.attribute_table) = c.len-6.ensures ∙ sym (length-map d.attribute_table attribute_view) in
    let t : c.len-7.result ≡ length (map stack_view d.stack_table) = c.len-7.ensures ∙ sym (length-map d.stack_table stack_view) in
    cc
