pub mod SampleContents
