use Rattle.catalog_doc.proofs.InRange.{in_range}
use Rattle.catalog_laws.proofs.ItemValues.{item_values, package_sizes}
use Rattle.catalog_laws.proofs.RowValues.{filled, head_values, lengths, row_values}
use Rattle.catalog_laws.proofs.laws.catalogs_have_values.Goals as goal

pub returns-clause-rows : goal.returns-clause-rows
returns-clause-rows c = λ cs whole. row_values cs whole.lawful

pub returns-clause-heads : goal.returns-clause-heads
returns-clause-heads c = λ cs whole. head_values cs whole.lawful

pub returns-clause-items : goal.returns-clause-items
returns-clause-items c = item_values

pub returns-clause-sizes : goal.returns-clause-sizes
returns-clause-sizes c = package_sizes

pub returns-clause-range : goal.returns-clause-range
returns-clause-range c = λ cs whole. in_range cs whole.lawful

pub returns-clause-lengths : goal.returns-clause-lengths
returns-clause-lengths c = λ cs whole. lengths cs whole.lawful

pub returns-clause-pages : goal.returns-clause-pages
returns-clause-pages c = λ cs whole. filled cs whole.lawful
