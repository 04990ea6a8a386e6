-- One name that unfolds every definition, for those who compute with all of them.
use Prim.{Unit, tt}
use Rattle.rules.specs.Bytes.{within, word_at, part, over, one, two, six, zeros, same}
use Rattle.rules.specs.Image.{within_limits, shape_right, index, address_of, adr, is_sector, is_data}
use Rattle.rules.specs.Names.{is_letter, is_digit, is_name_byte, all_zero, goes_on, is_word, legal}
use Rattle.rules.specs.Directory.{is_directory, step_to, ends, directory_right, sectors_from, directory, slots_at, slots_of, never_used, deleted, live, scan, named, vacant, find, vacancy, member, place_of, slot_behind, chain_record, placed}
use Rattle.rules.specs.Block.{idle, counts, uses, used_below, in_use, presettable, preset_in, preset, extensions, extension_in, extension}
use Rattle.rules.specs.Transfer.{next_to_read, load_puts, load, reading, off_free, fresh, linked, take_stores, take_puts, take_for, take_sector, sent, fill, writing, transfer, shut, mark, close_writing, close}
use Rattle.rules.specs.Files.{has_attribute, opened, open_read, new_entry, grow_stores, grow, open_write, rewind, open_directory, shown, next_slot, put_slot, read_sector, write_sector, hang_stores, gone, remove, delete, rename}
use Rattle.rules.specs.Call.{served, fits, misfit, checked, perform, asked, call}
use Rattle.rules.specs.Census.{namesake, twins, runs_out, chain_right, numbers_from, free_right, file_right, files_right, file_numbers, file_owners, files_numbers, files_owners, directory_numbers, listed, owners, tally, each_once, fault, concluded, census}
use Rattle.rules.specs.Text.{error_line, error_text, decimal_by, decimal, line, lines, report, too_long, printed}
use Rattle.rules.specs.Format.{link_up, information, settings, blank_sector, blank_to, blank, format}
use Rattle.rules.specs.Repair.{kept_from, kept_by, keeps, others, mend_file, mend_files, links, mend_free, repair_stores, mended, all_closed, repair}
use Rattle.rules.specs.Host.{as_bytes, host_concluded, host_census}

unfoldable pub rules : Unit {0}
unfolding within word_at part over one two six zeros same within_limits shape_right index address_of adr is_sector is_data is_letter is_digit is_name_byte all_zero goes_on is_word legal is_directory step_to ends directory_right sectors_from directory slots_at slots_of never_used deleted live scan named vacant find vacancy member place_of slot_behind chain_record placed idle counts uses used_below in_use presettable preset_in preset extensions extension_in extension next_to_read load_puts load reading off_free fresh linked take_stores take_puts take_for take_sector sent fill writing transfer shut mark close_writing close has_attribute opened open_read new_entry grow_stores grow open_write rewind open_directory shown next_slot put_slot read_sector write_sector hang_stores gone remove delete rename served fits misfit checked perform asked call namesake twins runs_out chain_right numbers_from free_right file_right files_right file_numbers file_owners files_numbers files_owners directory_numbers listed owners tally each_once fault concluded census error_line error_text decimal_by decimal line lines report too_long printed link_up information settings blank_sector blank_to blank format kept_from kept_by keeps others mend_file mend_files links mend_free repair_stores mended all_closed repair as_bytes host_concluded host_census
rules = tt
